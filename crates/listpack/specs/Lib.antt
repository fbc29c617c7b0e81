-- To be believed, in this order: what an element and a listpack are, and which bytes are one.
pub mod Width
pub mod Element
pub mod Listpack
pub mod Read
-- What functions answer on the way.
pub mod Known
pub mod AtPlace
