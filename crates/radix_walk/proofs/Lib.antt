pub mod WalkExamples
pub mod Beside
pub mod Paths
pub mod Stops
pub mod FirstAbove
pub mod LastBelow
pub mod Uncut
pub mod Laws
