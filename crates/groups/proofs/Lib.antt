-- What other crates cite is in Laws, and nothing else.
pub mod Laws
mod Orders
mod Names
mod Fields
mod Entries
mod Rules
mod Parts
mod Regions
mod Bodies
mod Pendings
mod Consumers
mod Kept
mod Turns
mod Limits
mod Verdicts
mod Spots
mod Searched
mod Groups
mod Areas
mod Listed
mod Finding
mod Steps
mod Batches
