-- Read in this order.
pub mod Entries
pub mod Operation
-- rows of a table, as the code has them
pub mod Table
pub mod Answer
pub mod Listing
pub mod Rank
-- keys that are IDs
pub mod Ids
