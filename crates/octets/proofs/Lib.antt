-- Laws is what callers cite; the others are its topics.
pub mod Laws
pub mod Options
pub mod Picks
pub mod Stages
pub mod Digits
pub mod Byte
pub mod Put
pub mod Areas
pub mod Splices
pub mod Slices
pub mod Tested
pub mod Ordered
mod Turns
