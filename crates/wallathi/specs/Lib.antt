-- Read in this order, after Command and Promise of the crates stream and snapshot: what a C host gets of an answer, lists of calls, and
-- what is claimed of them.
pub mod Export
pub mod Run
pub mod Replies
pub mod Demands
-- What the functions inside promise.
pub mod Telling
