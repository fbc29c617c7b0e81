-- `read_le` meets its contract: v is the number of the bytes from at + k on. Assumes nothing.
use mathlib.Core.Path.{◌≡◌}
use Prim.Native.Nat.{◌+◌, ◌-◌, ◌*◌, ◌^◌, ◌≤◌, ◌<◌}
use Rattle.octets.specs.Bytes.{le_value}
use Rattle.octets.specs.Place.{area}
use Rattle.octets.proofs.number.read_le.Given as goal

abbrev pub invariant-loop-k : goal.invariant-loop-k
invariant-loop-k l = (l.k ≤ l.width) × (l.v ≡ le_value (area (l.at + l.k) (l.width - l.k) l.s)) × (l.v < 2 ^ (8 * (l.width - l.k)))
