-- Read in this order.
pub mod Pair
pub mod Slip
pub mod Answer
