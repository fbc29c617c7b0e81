use mathlib.Core.Path.{◌≡◌, sym, ap, ◌∙◌}
use Prim.Native.Nat.{◌+◌}
use native.Mathlib.Omega.{arith}
use lib.ListN.{drop}
use Rattle.decimal.specs.Steps.{after, so_far}
use Rattle.decimal.specs.declared.recognition.Prefix.TheVariants.{Empty}
use Rattle.decimal.proofs.Steps.{turn, no_more, failed}
use Rattle.decimal.proofs.recognition.walk.Goals as goal
use Rattle.decimal.proofs.recognition.walk.Goals.{After-step-state, After-step-state-in-loop-i}

-- the first step, and one more
begun : (c : After-step-state) → let s = c.args.s.now in after Empty s ≡ after c.step-state.result.0 (drop 1 s)
begun c = turn Empty c.step-state.result.0 _ 0 (omega arith) (cc)

gone : (c : After-step-state-in-loop-i) → let s = c.args.s.now in
    after Empty s ≡ after c.step-state-in-loop-i.result.0 (drop (c.loop-i.i + 1) s)
gone c = let l = c.loop-i in l.invariant.1 ∙ turn l.state.0 c.step-state-in-loop-i.result.0 _ l.i (omega arith) (cc)

pub returns-then-s-eq0 : goal.returns-then-s-eq0
returns-then-s-eq0 c = sym (ap so_far (no_more Empty _ 0 (omega arith)))

pub returns-in-Failed : goal.returns-in-Failed
returns-in-Failed c = sym (ap so_far (begun (goal.at.returns-in-Failed c).After-step-state) ∙ failed c.step-state.result.0 _ (cc))

pub loop-i-init : goal.loop-i-init
loop-i-init c = (omega arith, begun (goal.at.loop-i-init c).After-step-state)

pub returns-in-Failed-prefix : goal.returns-in-Failed-prefix
returns-in-Failed-prefix c = sym (ap so_far (gone (goal.at.returns-in-Failed-prefix c).After-step-state-in-loop-i) ∙ failed c.step-state-in-loop-i.result.0 _ (cc))

pub loop-i-preserved : goal.loop-i-preserved
loop-i-preserved c = (omega arith, gone (goal.at.loop-i-preserved c).After-step-state-in-loop-i)

pub returns : goal.returns
returns c = let l = c.loop-i in c.answer.ensures ∙ sym (ap so_far (l.invariant.1 ∙ no_more l.state.0 _ l.i (omega arith)))
