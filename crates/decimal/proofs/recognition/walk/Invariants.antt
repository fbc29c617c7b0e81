-- `walk` meets its contract: what is left is to take the steps of the rest. Assumes nothing.
use mathlib.Core.Path.{◌≡◌}
use Prim.Native.Nat.{◌≤◌}
use lib.ListN.{length, drop}
use Rattle.decimal.specs.Steps.{after}
use Rattle.decimal.specs.declared.recognition.Prefix.TheVariants.{Empty}
use Rattle.decimal.proofs.recognition.walk.Given as goal

abbrev pub invariant-loop-i : goal.invariant-loop-i
invariant-loop-i l = (l.i ≤ length l.s) × (after Empty l.s ≡ after l.state.0 (drop l.i l.s))
