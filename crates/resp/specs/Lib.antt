-- Read in this order.
pub mod Reply
pub mod Parse
pub mod Answer
