-- What `gather` walks by, and what stays so: what is left to gather answers what the whole does. Assumes nothing.
use mathlib.Core.Path.{◌≡◌}
use Prim.Native.Nat.{◌≤◌}
use lib.ListN.{length, take}
use Rattle.keys.specs.Table.{tabled}
use Rattle.radix.specs.Answer.{Room}
use Rattle.radix.specs.Gathering.{gathered}
use Rattle.radix.specs.Record.{tree_at}
use Rattle.radix_bytes.specs.Bytes.{pool_in}
use Rattle.radix_rows.proofs.gather.+gather.Given as goal

abbrev pub decreases-gather : goal.decreases-gather
decreases-gather l = l.left

abbrev pub invariant-loop-p : goal.invariant-loop-p
invariant-loop-p l =
    Room l.t
    × ((l.rest ≤ l.left)
    × ((length l.path ≡ length l.initial.path)
    × ((take l.d l.path ≡ take l.d l.initial.path)
    × (gathered (take l.d l.initial.path) (tree_at l.rest (pool_in l.s) l.at) (tabled l.t) ≡ gathered (take l.d l.initial.path) (tree_at l.left (pool_in l.s) l.link) (tabled l.initial.t)))))

abbrev pub decreases-loop-p : goal.decreases-loop-p
decreases-loop-p l = l.rest
