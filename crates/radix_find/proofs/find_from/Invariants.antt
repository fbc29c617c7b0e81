-- `find_from` meets its contract: what is left to walk answers what the whole walk answers. Assumes nothing.
use mathlib.Core.Path.{◌≡◌}
use Prim.Native.Nat.{◌≤◌}
use lib.ListN.{length, drop}
use Rattle.radix.specs.Record.{tree_at}
use Rattle.radix.specs.Walk.{find_in}
use Rattle.radix_bytes.specs.Bytes.{pool_in}
use Rattle.radix_find.proofs.find_from.Given as goal

abbrev pub invariant-loop-p : goal.invariant-loop-p
invariant-loop-p l = (l.i ≤ length l.k) × (find_in (tree_at l.left (pool_in l.s) l.at) (drop l.i l.k) ≡ find_in (tree_at 256 (pool_in l.s) l.first) l.k)

abbrev pub decreases-loop-p : goal.decreases-loop-p
decreases-loop-p l = l.left
