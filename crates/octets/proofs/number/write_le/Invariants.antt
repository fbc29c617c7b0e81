-- `write_le` meets its contract: what is left is to put the digits of x from at + i on. Assumes nothing.
use mathlib.Core.Path.{◌≡◌}
use Prim.Native.Nat.{◌+◌, ◌-◌, ◌≤◌}
use lib.ListN.{length}
use Rattle.octets.specs.Bytes.{le}
use Rattle.octets.specs.Place.{put}
use Rattle.octets.proofs.number.write_le.Given as goal

abbrev pub invariant-loop-i : goal.invariant-loop-i
invariant-loop-i l = (l.i ≤ l.width) × (length l.d ≡ length l.initial.d) × (put l.initial.d l.at (le l.width l.v) ≡ put l.d (l.at + l.i) (le (l.width - l.i) l.x))
