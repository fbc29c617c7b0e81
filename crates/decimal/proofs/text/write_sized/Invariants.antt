-- `write_sized` meets its contract: what is left is to put the digits of x at at. Assumes nothing.
use mathlib.Core.Path.{◌≡◌}
use Prim.Native.Nat.{◌+◌, ◌^◌, ◌≤◌, ◌<◌}
use lib.ListN.{length}
use Rattle.octets.specs.Place.{put}
use Rattle.decimal.specs.Text.{natural_text}
use Rattle.decimal.proofs.text.write_sized.Given as goal

abbrev pub invariant-loop-x : goal.invariant-loop-x
invariant-loop-x l = (l.x < 2 ^ 64) × (l.end ≡ l.at + length (natural_text l.x)) × (l.end ≤ length l.d) × (length l.d ≡ length l.initial.d) × (put l.initial.d l.at (natural_text l.n) ≡ put l.d l.at (natural_text l.x))

abbrev pub decreases-loop-x : goal.decreases-loop-x
decreases-loop-x l = l.x
