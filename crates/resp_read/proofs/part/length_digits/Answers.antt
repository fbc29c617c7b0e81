use mathlib.Core.Path.{refl, sym, ap, ◌∙◌}
use native.Mathlib.Omega.{arith}
use Rattle.resp_read.specs.Answer.{short_by}
use Rattle.resp_read.proofs.Parts.{digits_end, digits_low, digits_high, digits_turn, digits_long, short_one}
use Rattle.resp_read.proofs.part.length_digits.Goals as goal

pub loop-i-init : goal.loop-i-init
loop-i-init c = (refl, omega arith)

pub returns-then-b-lt48 : goal.returns-then-b-lt48
returns-then-b-lt48 c = sym (ap short_by (c.loop-i.invariant.0 ∙ digits_low _ _ _ _ c.wide-b.ensures.0 (omega arith) (omega arith)) ∙ short_one _ c.loop-i.invariant.1)

pub returns-then-b-gt57 : goal.returns-then-b-gt57
returns-then-b-gt57 c = sym (ap short_by (c.loop-i.invariant.0 ∙ digits_high _ _ _ _ c.wide-b.ensures.0 (omega arith) (omega arith)) ∙ short_one _ c.loop-i.invariant.1)

pub returns-then-n-gt1000 : goal.returns-then-n-gt1000
returns-then-n-gt1000 c = sym (ap short_by (c.loop-i.invariant.0 ∙ digits_turn _ _ _ _ c.wide-b.ensures.0 (omega arith) (omega arith) (omega arith) (omega arith)) ∙ digits_long _ _ _ (omega arith))

pub loop-i-preserved : goal.loop-i-preserved
loop-i-preserved c = (c.loop-i.invariant.0 ∙ digits_turn _ _ _ _ c.wide-b.ensures.0 (omega arith) (omega arith) (omega arith) (omega arith), omega arith)

pub returns : goal.returns
returns c = sym (ap short_by (c.loop-i.invariant.0 ∙ digits_end _ _ _ (omega arith)) ∙ short_one _ c.loop-i.invariant.1)
