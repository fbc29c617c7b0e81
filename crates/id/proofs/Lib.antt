-- Laws is what callers cite; the others are its topics.
pub mod Laws
pub mod Ordered
pub mod Stored
pub mod Differs
pub mod Follows
pub mod Derived
