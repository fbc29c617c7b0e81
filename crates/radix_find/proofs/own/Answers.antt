-- `own` meets its contract. Assumes nothing.
use borrow.Author.Tests.{eq-eqb, ne_eqb}
use Rattle.radix_find.proofs.own.Goals as goal

pub returns-then-key_at-eq0 : goal.returns-then-key_at-eq0
returns-then-key_at-eq0 c = rw (← c.key_at.ensures.0, eq-eqb _ _ c.if-key_at-eq0.true)

pub returns : goal.returns
returns c = rw (← c.key_at.ensures.0, ne_eqb _ _ c.if-key_at-eq0.false, c.value_at.ensures.0)
