-- Read in this order, after Entries and Operation of the crate keys: what a C caller sees, lists of calls, and the claim about them.
pub mod Export
pub mod Run
pub mod Demands
