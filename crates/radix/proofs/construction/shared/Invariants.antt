-- `shared` meets its contract. Assumes nothing.
use mathlib.Core.Path.{◌≡◌}
use Prim.Native.Nat.{◌+◌, ◌-◌, ◌≤◌}
use lib.ListN.{length}
use Rattle.octets.specs.Place.{area}
use Rattle.radix.specs.Shape.{common}
use Rattle.radix.proofs.construction.shared.Given as goal

abbrev pub invariant-loop-j : goal.invariant-loop-j
invariant-loop-j l = (l.j ≤ l.k) × (l.j + length (common (area (l.p + l.j) (l.m - l.j) l.key) (area (l.q + l.j) (l.k - l.j) l.key)) ≡ length (common (area l.p l.m l.key) (area l.q l.k l.key)))
