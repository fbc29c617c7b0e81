-- Read in this order, after Entries, Operation and Answer of the crate keys.
pub mod Held
pub mod Promise
