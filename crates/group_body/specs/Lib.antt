-- What each function answers; of it only read_into has to be believed, the others describe the walk over a body's names and entries.
pub mod Answer
