-- Laws is what callers cite.
pub mod Laws
pub mod Tests
pub mod Steps
pub mod Frees
pub mod Walks
pub mod Verdict
