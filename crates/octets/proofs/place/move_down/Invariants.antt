-- `move_down` meets its contract: what is left is to move the bytes from i on, which are as they were. Assumes nothing.
use mathlib.Core.Path.{◌≡◌}
use Prim.Native.Nat.{◌+◌, ◌-◌}
use lib.ListN.{length}
use Rattle.octets.specs.Place.{area, put}
use Rattle.octets.proofs.place.move_down.Given as goal

abbrev pub invariant-loop-i : goal.invariant-loop-i
invariant-loop-i l = (length l.s ≡ length l.initial.s) × (put l.initial.s l.to (area l.from l.n l.initial.s) ≡ put l.s (l.to + l.i) (area (l.from + l.i) (l.n - l.i) l.s))
