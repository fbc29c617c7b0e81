-- Assumes nothing.
use mathlib.Core.Path.{◌≡◌}
use Prim.Native.Nat.{◌≤◌}
use lib.ListN.{length}
use Rattle.listpack.specs.AtPlace.{end_after}
use Rattle.listpack.proofs.strict.strings_end.Given as goal

-- what is left
abbrev pub invariant-loop-k : goal.invariant-loop-k
invariant-loop-k l = (end_after l.n l.s l.from ≡ end_after l.k l.s l.at) × (l.at ≤ length l.s)

abbrev pub decreases-loop-k : goal.decreases-loop-k
decreases-loop-k l = l.k
