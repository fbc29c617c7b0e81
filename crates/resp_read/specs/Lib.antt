-- Read in this order.
pub mod Answer
