-- To be believed, after Entries of the crate keys: the shape of a set of keys, the record and the entries that it holds, and the record
-- that is made of entries.
pub mod Shape
pub mod Record
pub mod Layout
-- How the code goes about it; the laws of proofs/ tie these to the above.
pub mod Canon
pub mod Sprout
pub mod Gathering
pub mod Rows
pub mod Answer
pub mod Walk
