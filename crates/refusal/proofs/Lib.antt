-- Laws is what callers cite; Examples the table, computed.
pub mod Laws
pub mod Examples
