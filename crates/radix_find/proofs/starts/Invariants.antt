-- `starts` meets its contract: what is left of the label is compared as the whole is. Assumes nothing.
use mathlib.Core.Path.{◌≡◌}
use Prim.Native.Nat.{◌+◌, ◌-◌, ◌≤◌}
use lib.ListN.{length, drop}
use Rattle.octets.specs.Place.{area}
use Rattle.radix.specs.Shape.{starts_with}
use Rattle.radix_find.proofs.starts.Given as goal

abbrev pub invariant-loop-j : goal.invariant-loop-j
invariant-loop-j l = (l.i + l.j ≤ length l.k) × (starts_with (area (l.at + l.j) (l.n - l.j) l.s) (drop (l.i + l.j) l.k) ≡ starts_with (area l.at l.n l.s) (drop l.i l.k))
