-- The laws by topic. Assumes nothing.
pub mod Laws
pub mod Strings
pub mod Pairs
pub mod Walk
pub mod Steps
