-- Assumes nothing.
use mathlib.Core.Path.{refl, sym, ap}
use native.Mathlib.Omega.{arith}
use Rattle.resp_read.specs.Answer.{short_by}
use Rattle.resp_read.proofs.Parts.{head_none, head_other, length_step}
use Rattle.resp_read.proofs.part.length_head.Goals as goal

pub returns-then-s-at : goal.returns-then-s-at
returns-then-s-at c = sym (ap short_by (head_none _ _ 36 (omega arith)))

pub returns-then-s-at-ne-BULK : goal.returns-then-s-at-ne-BULK
returns-then-s-at-ne-BULK c = sym (ap short_by (head_other _ _ 36 (omega arith) (omega arith)))

pub returns-in_err-n : goal.returns-in_err-n
returns-in_err-n c = rw (c.from_residual.ensures, length_step c.args.s.now c.args.at (omega arith) (omega arith), ← c.in_err-n.ensures) refl

pub returns-in_err-next : goal.returns-in_err-next
returns-in_err-next c = rw (c.from_residual-in_err-next.ensures, length_step c.args.s.now c.args.at (omega arith) (omega arith), ← c.in_ok-n.ensures, ← c.in_err-next.ensures) refl

pub returns : goal.returns
returns c = rw (length_step c.args.s.now c.args.at (omega arith) (omega arith), ← c.in_ok-n.ensures, ← c.in_ok-next.ensures) refl
