-- The neighbours as the code answers them. The walks themselves are said in the crate radix, specs/Walk.
pub mod Neighbours
