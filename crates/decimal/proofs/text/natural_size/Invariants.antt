-- `natural_size` meets its contract: what is left is to count the digits of x. Assumes nothing.
use mathlib.Core.Path.{◌≡◌}
use Prim.Native.Nat.{◌+◌, ◌^◌, ◌<◌}
use lib.ListN.{length}
use Rattle.decimal.specs.Text.{natural_text}
use Rattle.decimal.proofs.text.natural_size.Given as goal

abbrev pub invariant-loop-x : goal.invariant-loop-x
invariant-loop-x l = (l.x < 2 ^ 64) × (length (natural_text l.n) ≡ l.size + length (natural_text l.x))

abbrev pub decreases-loop-x : goal.decreases-loop-x
decreases-loop-x l = l.x
