-- Topics.
pub mod Table
pub mod Rows
pub mod Loose
pub mod Parts
pub mod Sizes
pub mod Snapshots
pub mod Judged
pub mod Saved
pub mod Turned
pub mod Slips
-- What callers cite.
pub mod Laws
