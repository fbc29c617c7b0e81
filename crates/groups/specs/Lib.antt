-- To be believed, in this order: a group and its rules, what happens to it, its bytes and those of all groups.
pub mod Group
pub mod Step
pub mod Bytes
pub mod Area
-- What is read of bytes, test by test, and what each function answers. That the tests accept exactly the bytes above is proved
-- (proofs/Laws: region_parse, region_bytes_lem, body_parse, body_bytes_lem).
pub mod Parse
pub mod Answer
