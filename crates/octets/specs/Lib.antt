-- Read in this order.
pub mod Pick
pub mod Maybe
pub mod Bytes
pub mod Place
pub mod Compare
