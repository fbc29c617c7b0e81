-- Read in this order.
pub mod Case
