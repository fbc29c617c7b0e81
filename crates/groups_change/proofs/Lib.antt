-- What other crates cite is in Laws, and nothing else.
pub mod Laws
mod Lists
mod Moves
mod Shapes
mod Rows
mod Changes
mod Members
mod Gathered
mod Dropped
mod Batches
