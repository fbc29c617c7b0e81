-- `tidy_at` meets its contract. Assumes nothing.
use Rattle.radix_bytes.specs.Bytes.{pool_in}
use Rattle.radix.proofs.Laws.{tidy_long, tidy_flag, tidy_tail}
use Rattle.radix_judge.proofs.node.tidy_at.Goals as goal

pub returns-then-n-gt16 : goal.returns-then-n-gt16
returns-then-n-gt16 c = let x = c.args in tidy_long (pool_in x.s.now) x.p c.len_at-n.result c.len_at-n.ensures.0 c.if-n-gt16.true

pub returns-then-not-flag_at : goal.returns-then-not-flag_at
returns-then-not-flag_at c = let x = c.args in tidy_flag (pool_in x.s.now) x.p c.len_at-n.result c.len_at-n.ensures.0 c.if-n-gt16.false c.flag_at.result c.flag_at.ensures (c.if-not-flag_at.true)

pub returns : goal.returns
returns c = let x = c.args in tidy_tail (pool_in x.s.now) x.p c.len_at-n.result c.len_at-n.ensures.0 c.if-n-gt16.false c.flag_at.result c.flag_at.ensures (c.if-not-flag_at.false) c.ends_at.result c.ends_at.ensures
