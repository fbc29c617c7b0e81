-- The contents of a snapshot by the sizes of its bodies: a law says that they are the same (proofs/Laws, `snapshot_is`).
pub mod Sizes
-- What the groups' sizes are.
pub mod Measured
