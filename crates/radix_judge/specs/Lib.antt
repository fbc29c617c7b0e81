-- Read after Record and Gathering of the crate radix.
pub mod Visit
