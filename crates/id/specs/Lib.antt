-- Read in this order.
pub mod Id
pub mod Bytes
pub mod Difference
