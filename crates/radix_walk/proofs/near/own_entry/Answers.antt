-- `own_entry` meets its contract. Assumes nothing.
use mathlib.Core.Path.{ap}
use borrow.Author.Tests.{ne_eqb}
use Rattle.std.proofs.Common.{Some}
use Rattle.radix_walk.proofs.near.own_entry.Goals as goal

pub returns-then-key_at-eq0 : goal.returns-then-key_at-eq0
returns-then-key_at-eq0 c = rw (← c.key_at.ensures.0, c.if-key_at-eq0.true)

pub returns : goal.returns
returns c = rw (← c.key_at.ensures.0, ne_eqb _ _ c.if-key_at-eq0.false, ← c.value_at.ensures.0) (ap Some c.entry_of.ensures)
