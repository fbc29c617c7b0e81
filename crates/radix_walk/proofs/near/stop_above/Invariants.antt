-- `stop_above` meets its contract: what is left to walk answers what the whole walk answers. Assumes nothing.
use mathlib.Core.Path.{◌≡◌}
use mathlib.Core.List.{[]}
use Prim.Native.Nat.{◌≤◌}
use lib.ListN.{length, take, drop}
use Rattle.radix.specs.Record.{tree_at}
use Rattle.radix_bytes.specs.Bytes.{pool_in}
use Rattle.radix.specs.Walk.{seek_first, first_in}
use Rattle.radix_walk.specs.Neighbours.{least_from}
use Rattle.radix_walk.proofs.near.stop_above.Given as goal

abbrev pub invariant-loop-p : goal.invariant-loop-p
invariant-loop-p l =
    (l.i ≤ length l.k)
    × (l.stop.lead ≤ length l.k)
    × (seek_first (take l.i l.k) (tree_at l.left (pool_in l.s) l.at) (drop l.i l.k) (least_from (pool_in l.s) l.k l.stop) ≡ first_in [] (tree_at 256 (pool_in l.s) l.first) l.k)

abbrev pub decreases-loop-p : goal.decreases-loop-p
decreases-loop-p l = l.left
