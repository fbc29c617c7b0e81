-- `answer_after` meets its contract: what is left is to take the steps of the rest. Assumes nothing.
use mathlib.Core.Path.{◌≡◌}
use lib.ListN.{drop}
use Rattle.decimal.specs.Steps.{after}
use Rattle.decimal.specs.declared.recognition.Prefix.TheVariants.{Empty}
use Rattle.bench_decimal.proofs.answer_after.Given as goal

abbrev pub invariant-loop-b : goal.invariant-loop-b
invariant-loop-b l = after Empty l.s ≡ after l.state.0 (drop l.b-index l.s)
