-- Laws is what callers cite; the others are its topics.
pub mod Laws
pub mod Every
pub mod Sorted
pub mod Sides
pub mod Fits
pub mod Maps
pub mod Positions
pub mod Nearest
pub mod Kept
pub mod Answers
pub mod Rows
pub mod Tables
pub mod Placing
pub mod Members
pub mod Ids
