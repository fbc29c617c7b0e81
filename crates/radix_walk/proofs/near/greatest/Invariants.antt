-- `greatest` meets its contract: what is left to go down answers what the whole way does. Assumes nothing.
use mathlib.Core.Path.{◌≡◌}
use Prim.Native.Nat.{◌≤◌}
use lib.ListN.{length, take}
use Rattle.radix.specs.Record.{tree_at}
use Rattle.radix_bytes.specs.Bytes.{pool_in}
use Rattle.radix.specs.Walk.{greatest_in}
use Rattle.radix_walk.specs.Neighbours.{cut_key, alone}
use Rattle.radix_walk.proofs.near.greatest.Given as goal

abbrev pub invariant-loop-path : goal.invariant-loop-path
invariant-loop-path l =
    (length l.path ≡ 16)
    × (l.n ≤ 16)
    × (cut_key (greatest_in (take l.n l.path) (alone (tree_at l.left (pool_in l.s) l.at))) ≡ cut_key (greatest_in (take l.initial.n l.initial.path) (alone (tree_at l.initial.left (pool_in l.s) l.initial.at))))

abbrev pub decreases-loop-path : goal.decreases-loop-path
decreases-loop-path l = l.left
