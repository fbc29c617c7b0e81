-- Assumes nothing.
use mathlib.Core.Path.{refl}
use Prim.Native.Nat.{◌+◌}
use native.Mathlib.Omega.{arith}
use Rattle.resp_read.proofs.Parts.{length_at, end_short, bulk_step}
use Rattle.resp_read.proofs.part.bulk.Goals as goal

pub returns-in_err-n : goal.returns-in_err-n
returns-in_err-n c = rw (c.from_residual.ensures, bulk_step c.args.s.now c.args.at, ← c.in_err-n.ensures) refl

pub overflow_sub-s : goal.overflow_sub-s
overflow_sub-s c = omega (arith, (length_at _ _ _ c.in_ok-n.ensures).0.within)

pub returns-then-s-n : goal.returns-then-s-n
returns-then-s-n c = rw (bulk_step c.args.s.now c.args.at, ← c.in_ok-n.ensures, end_short c.args.s.now (c.in_ok-n.n.next + c.in_ok-n.n.value) (omega arith)) refl

pub overflow_add-n : goal.overflow_add-n
overflow_add-n c = omega (arith, (length_at _ _ _ c.in_ok-n.ensures).1)

pub returns-in_err-line_end : goal.returns-in_err-line_end
returns-in_err-line_end c = rw (c.from_residual-in_err-line_end.ensures, bulk_step c.args.s.now c.args.at, ← c.in_ok-n.ensures, ← c.in_err-line_end.ensures) refl

pub returns : goal.returns
returns c = rw (bulk_step c.args.s.now c.args.at, ← c.in_ok-n.ensures, ← c.in_ok-line_end.ensures) refl
