-- `read_be` meets its contract: v and the bytes that are left make up the number. Assumes nothing.
use mathlib.Core.Path.{◌≡◌}
use Prim.Native.Nat.{◌+◌, ◌-◌, ◌*◌, ◌^◌, ◌≤◌, ◌<◌}
use Rattle.octets.specs.Bytes.{be_from, be_value}
use Rattle.octets.specs.Place.{area}
use Rattle.octets.proofs.number.read_be.Given as goal

abbrev pub invariant-loop-i : goal.invariant-loop-i
invariant-loop-i l = (l.i ≤ l.width) × (be_from l.v (area (l.at + l.i) (l.width - l.i) l.s) ≡ be_value (area l.at l.width l.s)) × (l.v < 2 ^ (8 * l.i))
