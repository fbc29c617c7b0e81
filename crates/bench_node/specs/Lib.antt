pub mod Answer
pub mod Node
