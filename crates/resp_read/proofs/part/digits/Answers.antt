use mathlib.Core.Path.{refl, sym, ◌∙◌}
use native.Mathlib.Omega.{arith}
use Rattle.resp_read.proofs.Parts.{digits_end, digits_low, digits_high, digits_over, digits_turn}
use Rattle.resp_read.proofs.part.digits.Goals as goal

pub loop-i-init : goal.loop-i-init
loop-i-init c = (refl, omega arith)

pub returns-then-b-lt48 : goal.returns-then-b-lt48
returns-then-b-lt48 c = sym (c.loop-i.invariant.0 ∙ digits_low _ _ _ _ c.wide-b.ensures.0 (omega arith) (omega arith))

pub returns-then-b-gt57 : goal.returns-then-b-gt57
returns-then-b-gt57 c = sym (c.loop-i.invariant.0 ∙ digits_high _ _ _ _ c.wide-b.ensures.0 (omega arith) (omega arith))

pub returns-then-n-gt1844674407370955161 : goal.returns-then-n-gt1844674407370955161
returns-then-n-gt1844674407370955161 c = sym (c.loop-i.invariant.0 ∙ digits_over _ _ _ _ c.wide-b.ensures.0 (omega arith) (omega arith) (omega arith) (omega arith))

pub returns-then-n-b : goal.returns-then-n-b
returns-then-n-b c = sym (c.loop-i.invariant.0 ∙ digits_over _ _ _ _ c.wide-b.ensures.0 (omega arith) (omega arith) (omega arith) (omega arith))

pub loop-i-preserved : goal.loop-i-preserved
loop-i-preserved c = (c.loop-i.invariant.0 ∙ digits_turn _ _ _ _ c.wide-b.ensures.0 (omega arith) (omega arith) (omega arith) (omega arith), omega arith)

pub returns : goal.returns
returns c = sym (c.loop-i.invariant.0 ∙ digits_end _ _ _ (omega arith))
