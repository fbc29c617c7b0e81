use mathlib.Core.Path.{sym, ap, ◌∙◌}
use native.Mathlib.Omega.{arith}
use Rattle.decimal.specs.Steps.{so_far}
use Rattle.decimal.proofs.Laws.{turn, no_more, recognised}
use Rattle.bench_decimal.proofs.answer_after.Goals as goal

pub loop-b-preserved : goal.loop-b-preserved
loop-b-preserved c = let l = c.loop-b in l.invariant ∙ turn l.state.0 c.step-state.result.0 _ l.b-index (omega arith) c.step-state.ensures

pub returns : goal.returns
returns c = let l = c.loop-b in c.answer.ensures ∙ sym (ap so_far (l.invariant ∙ no_more l.state.0 _ l.b-index (omega arith))) ∙ recognised _
