-- The laws by topic. Assumes nothing.
pub mod Samples
pub mod Names
pub mod Bodies
pub mod Entries
