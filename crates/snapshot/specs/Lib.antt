-- What has to be believed, in this order.
pub mod Bytes
pub mod Parse
pub mod Command
pub mod Ledger
-- What the functions promise.
pub mod Promise
-- The same files, told by a test of their structure: a law says that it is the same.
pub mod Judge
