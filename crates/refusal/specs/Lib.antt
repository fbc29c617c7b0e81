-- Read in this order.
pub mod Number
