-- `write_be` meets its contract: what is left is to put the k digits of x at at. Assumes nothing.
use mathlib.Core.Path.{◌≡◌}
use Prim.Native.Nat.{◌≤◌}
use lib.ListN.{length}
use Rattle.octets.specs.Bytes.{be}
use Rattle.octets.specs.Place.{put}
use Rattle.octets.proofs.number.write_be.Given as goal

abbrev pub invariant-loop-k : goal.invariant-loop-k
invariant-loop-k l = (l.k ≤ l.width) × (length l.d ≡ length l.initial.d) × (put l.initial.d l.at (be l.width l.v) ≡ put l.d l.at (be l.k l.x))
