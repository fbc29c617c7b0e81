-- `move_up` meets its contract: what is left is to move the first k bytes, which are as they were. Assumes nothing.
use mathlib.Core.Path.{◌≡◌}
use Prim.Native.Nat.{◌≤◌}
use lib.ListN.{length}
use Rattle.octets.specs.Place.{area, put}
use Rattle.octets.proofs.place.move_up.Given as goal

abbrev pub invariant-loop-k : goal.invariant-loop-k
invariant-loop-k l = (l.k ≤ l.n) × (length l.s ≡ length l.initial.s) × (put l.initial.s l.to (area l.from l.n l.initial.s) ≡ put l.s l.to (area l.from l.k l.s))
