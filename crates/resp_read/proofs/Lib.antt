-- The laws by topic. Assumes nothing.
pub mod Places
pub mod Parts
pub mod Ids
pub mod Openings
pub mod Sizes
pub mod Replies
pub mod Messages
