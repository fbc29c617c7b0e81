pub mod Labelled
pub mod Paths
