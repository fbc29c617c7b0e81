-- `copy_in` meets its contract: what is left is to put the rest of s from at + i on. Assumes nothing.
use mathlib.Core.Path.{◌≡◌}
use Prim.Native.Nat.{◌+◌}
use lib.ListN.{length, drop}
use Rattle.octets.specs.Place.{put}
use Rattle.octets.proofs.place.copy_in.Given as goal

abbrev pub invariant-loop-i : goal.invariant-loop-i
invariant-loop-i l = (length l.d ≡ length l.initial.d) × (put l.initial.d l.at l.s ≡ put l.d (l.at + l.i) (drop l.i l.s))
