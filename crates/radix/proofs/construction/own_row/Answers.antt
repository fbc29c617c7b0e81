-- `own_row` meets its contract. Assumes nothing.
use borrow.Author.Tests.{eq-eqb, ne_eqb}
use Rattle.radix.proofs.construction.own_row.Goals as goal

pub returns-then-row_len-e : goal.returns-then-row_len-e
returns-then-row_len-e c = rw (← c.row_len.ensures.0, eq-eqb _ _ c.if-row_len-e.true)

pub returns : goal.returns
returns c = rw (← c.row_len.ensures.0, ne_eqb _ _ c.if-row_len-e.false)
