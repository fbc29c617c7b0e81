-- What the functions of the benchmark answer.
pub mod Told
