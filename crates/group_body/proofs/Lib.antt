pub mod Laws
mod Packed
mod Tested
mod Outward
mod Inward
