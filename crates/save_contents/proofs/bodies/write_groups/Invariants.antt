-- `write_groups` meets its contract: what is written and what is left is the whole. Assumes nothing.
use mathlib.Core.Path.{◌≡◌}
use mathlib.Core.List.{List, map}
use Prim.Native.Nat.{ℕ, ◌+◌, ◌≤◌}
use lib.ListN.{length, drop}
use Rattle.octets.specs.Place.{put}
use Rattle.group_area.specs.Answer.{groups_in}
use Rattle.snapshot.specs.Bytes.{group_part, bodies}
use Rattle.save_contents.proofs.bodies.write_groups.Given as goal

-- the bodies that are left from group k on
abbrev pub left : List ℕ → ℕ → List ℕ
left s k = bodies (map group_part (drop k (groups_in s)))

abbrev pub invariant-loop-k : goal.invariant-loop-k
invariant-loop-k l = (l.k ≤ l.n) × (length l.out ≡ length l.initial.out) × (l.to + length (left l.area l.k) ≡ l.at + length (left l.area 0)) × (put l.out l.to (left l.area l.k) ≡ put l.initial.out l.at (left l.area 0))
