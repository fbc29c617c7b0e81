-- `last_of` meets its contract. Assumes nothing.
use mathlib.Core.Path.{◌≡◌}
use mathlib.Core.List.{List}
use Prim.Native.Nat.{ℕ, ◌≤◌}
use Rattle.radix.specs.Record.{tree_at}
use Rattle.radix_bytes.specs.Bytes.{pool_in}
use Rattle.radix.specs.Walk.{greatest_in}
use Rattle.radix_walk.proofs.near.last_of.Given as goal

abbrev pub invariant-loop-later : goal.invariant-loop-later
invariant-loop-later l = (l.rest ≤ l.left) × ((before : List ℕ) → greatest_in before (tree_at l.left (pool_in l.s) l.link) ≡ greatest_in before (tree_at l.rest (pool_in l.s) l.at))

abbrev pub decreases-loop-later : goal.decreases-loop-later
decreases-loop-later l = l.rest
