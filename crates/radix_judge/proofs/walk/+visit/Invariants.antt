-- `visit` meets its contract: what is left to visit answers what the whole does. Assumes nothing.
use mathlib.Core.Bool.{true}
use mathlib.Core.Path.{◌≡◌}
use Prim.Native.Nat.{◌≤◌}
use lib.ListN.{length}
use Rattle.radix_bytes.specs.Bytes.{pool_in}
use Rattle.radix_judge.specs.Visit as specs
use Rattle.radix_judge.proofs.walk.+visit.Given as goal

abbrev pub decreases-visit : goal.decreases-visit
decreases-visit l = l.left

abbrev pub invariant-loop-at : goal.invariant-loop-at
invariant-loop-at l =
    (l.rest ≤ l.left) × (l.keys ≤ 64) × (length l.marks ≡ length l.initial.marks)
    × (specs.visit l.rest (pool_in l.s) l.first l.least l.at l.d l.keys l.marks ≡ specs.visit l.left (pool_in l.s) true 0 l.link l.d l.n l.initial.marks)

abbrev pub decreases-loop-at : goal.decreases-loop-at
decreases-loop-at l = l.rest
