-- Laws is what callers cite.
pub mod Laws
-- The passes answer what the image is.
mod Marks
mod Successive
mod Passed
-- The functions, return by return.
mod Checks
mod Judged
mod Looked
mod TableRows
mod Asking
