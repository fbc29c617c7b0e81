-- Assumes nothing.
use mathlib.Core.Path.{refl, sym}
use native.Mathlib.Omega.{arith}
use Rattle.resp_read.proofs.Parts.{head_none, head_other, head_step}
use Rattle.resp_read.proofs.part.head.Goals as goal

pub returns-then-s-at : goal.returns-then-s-at
returns-then-s-at c = sym (head_none _ _ _ (omega arith))

pub returns-then-s-at-2 : goal.returns-then-s-at-2
returns-then-s-at-2 c = sym (head_other _ _ _ (omega arith) (omega arith))

pub returns-in_err-n : goal.returns-in_err-n
returns-in_err-n c = rw (c.from_residual.ensures, head_step c.args.s.now c.args.at c.args.b (omega arith) (omega arith), ← c.in_err-n.ensures) refl

pub returns-in_err-next : goal.returns-in_err-next
returns-in_err-next c = rw (c.from_residual-in_err-next.ensures, head_step c.args.s.now c.args.at c.args.b (omega arith) (omega arith), ← c.in_ok-n.ensures, ← c.in_err-next.ensures) refl

pub returns : goal.returns
returns c = rw (head_step c.args.s.now c.args.at c.args.b (omega arith) (omega arith), ← c.in_ok-n.ensures, ← c.in_ok-next.ensures) refl
