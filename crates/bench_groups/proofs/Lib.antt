-- The laws by topic. Assumes nothing.
pub mod Answers
