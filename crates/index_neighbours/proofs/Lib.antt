-- Laws is what callers cite; the other is its topic.
pub mod Laws
pub mod Adjacent
