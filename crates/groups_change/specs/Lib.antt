-- To be believed: what a change answers and leaves, and whether an entry moved.
pub mod Change
pub mod Moved
-- The walk over the entries when a consumer is put in or taken out.
pub mod Places
