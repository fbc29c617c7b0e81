-- Laws is what callers cite.
pub mod Laws
pub mod Words
pub mod Places
