-- Read in this order.
pub mod Judgement
pub mod Lookup
pub mod TableRows
-- How the judgement goes on, pass by pass.
pub mod Passes
