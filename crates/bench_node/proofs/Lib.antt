-- The laws by topic. Assumes nothing.
pub mod Slots
pub mod Written
