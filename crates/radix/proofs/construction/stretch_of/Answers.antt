-- `stretch_of` meets its contract. Assumes nothing.
use native.Mathlib.Omega.{arith}
use borrow.Author.Tests.{eq-eqb, ne_eqb, not-true, not-false}
use Rattle.radix.proofs.construction.stretch_of.Goals as goal

pub returns-then-not-first : goal.returns-then-not-first
returns-then-not-first c = rw (not-true c.args.first c.if-not-first.true-raw)

pub returns-then-m-b : goal.returns-then-m-b
returns-then-m-b c = rw (not-false c.args.first c.if-not-first.false-raw, ne_eqb _ _ c.if-m-b.true)

pub overflow_sub-k : goal.overflow_sub-k
overflow_sub-k c = omega (arith, c.row_len-k.ensures.0)

pub overflow_sub-n : goal.overflow_sub-n
overflow_sub-n c = omega (arith, c.row_len-n.ensures.0)

pub shared-requires : goal.shared-requires
shared-requires c = omega (arith, c.row_len-k.ensures, c.row_len-n.ensures)

pub returns : goal.returns
returns c = rw (not-false c.args.first c.if-not-first.false-raw, eq-eqb _ _ c.if-m-b.false, ← c.row_len-k.ensures.0, ← c.row_len-n.ensures.0) c.shared.ensures
