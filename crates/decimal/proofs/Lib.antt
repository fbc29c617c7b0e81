-- Laws is what callers cite; the others are its topics.
pub mod Laws
pub mod Cases
pub mod Natural
pub mod Steps
pub mod Writing
pub mod Examples
