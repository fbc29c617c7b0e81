-- What other crates cite is in Laws, and nothing else.
pub mod Laws
mod Judgement
mod Laid
mod Found
mod Fresh
mod Answers
mod Lent
