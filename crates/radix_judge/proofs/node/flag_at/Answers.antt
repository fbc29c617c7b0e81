-- `flag_at` meets its contract. Assumes nothing.
use borrow.Author.Tests.{ne_eqb}
use Rattle.radix_judge.proofs.node.flag_at.Goals as goal

pub returns-then-k-eq0 : goal.returns-then-k-eq0
returns-then-k-eq0 c = rw (← c.key_at-k.ensures.0, c.if-k-eq0.true, ← c.value_at.ensures.0)

pub returns : goal.returns
returns c = rw (← c.key_at-k.ensures.0, ne_eqb _ _ c.if-k-eq0.false)
