-- What callers cite: the neighbours in the shape of a map are the map's. Assumes nothing.
pub use Rattle.radix_walk.proofs.Uncut.{near_first, near_last}
