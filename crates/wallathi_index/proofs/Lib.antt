-- the claim about every list of calls
pub mod Sequence
