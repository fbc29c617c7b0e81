-- Topics.
mod Rows
mod Regions
mod Whole
-- What callers cite.
pub mod Laws
