-- Laws is what callers cite; the others are its topics.
pub mod Laws
pub mod Numbers
pub mod Parts
pub mod Openings
pub mod Entries
pub mod Replies
pub mod Joined
pub mod Writing
pub mod Examples
