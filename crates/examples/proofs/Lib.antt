pub mod Marked
pub mod More
pub mod Reports
pub mod Ranges
