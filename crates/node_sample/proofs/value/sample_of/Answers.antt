-- Assumes nothing.
use Rattle.std.proofs.Common.{arith}
use Rattle.node_sample.proofs.Samples.{counts, counts_not}
use Rattle.node_sample.proofs.value.sample_of.Goals as goal

pub returns-then-n : goal.returns-then-n
returns-then-n c = counts_not _ _ c.wrapping_add_u64-n.ensures.value (omega arith)

pub returns : goal.returns
returns c = counts _ _ c.wrapping_add_u64-n.ensures.value (omega arith)
