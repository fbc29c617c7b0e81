-- Laws is what callers cite.
pub mod Laws
pub mod Settling
pub mod Steps
