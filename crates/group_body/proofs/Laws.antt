-- What callers cite. Assumes nothing.
--   Outward     the size of a body
pub use Rattle.group_body.proofs.Outward.{length_body}
