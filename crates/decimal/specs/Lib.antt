-- Read in this order.
pub mod Integer
pub mod Steps
pub mod Text
