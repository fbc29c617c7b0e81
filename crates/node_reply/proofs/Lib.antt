-- The laws by topic; Laws is what callers cite. Assumes nothing.
pub mod Laws
pub mod Written
pub mod Bulks
pub mod Known
