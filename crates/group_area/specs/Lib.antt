-- To be believed: what each function answers and leaves.
pub mod Answer
