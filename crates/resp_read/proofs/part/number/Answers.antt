-- Assumes nothing.
use mathlib.Core.Path.{sym, ◌∙◌}
use native.Mathlib.Omega.{arith}
use Rattle.resp_read.proofs.Parts.{number_none, number_zero, number_low, number_high, number_more}
use Rattle.resp_read.proofs.part.number.Goals as goal

pub returns-then-s-at : goal.returns-then-s-at
returns-then-s-at c = sym (number_none _ _ (omega arith))

pub returns-then-b-lt48 : goal.returns-then-b-lt48
returns-then-b-lt48 c = sym (number_low _ _ _ c.wide-b.ensures.0 (omega arith) (omega arith))

pub returns-then-b-gt57 : goal.returns-then-b-gt57
returns-then-b-gt57 c = sym (number_high _ _ _ c.wide-b.ensures.0 (omega arith) (omega arith))

pub returns-then-b-eq48 : goal.returns-then-b-eq48
returns-then-b-eq48 c = sym (number_zero _ _ _ c.wide-b.ensures.0 (omega arith) (omega arith))

pub returns : goal.returns
returns c = c.digits.ensures ∙ sym (number_more _ _ _ c.wide-b.ensures.0 (omega arith) (omega arith) (omega arith) (omega arith))
