-- `move_places` meets its contract: what is moved and what is left to move are the whole. Assumes nothing.
use mathlib.Core.Path.{◌≡◌}
use mathlib.Core.List.{◌++◌}
use Prim.Native.Nat.{◌+◌, ◌-◌, ◌*◌, ◌≤◌}
use lib.ListN.{length, take, drop}
use Rattle.groups_change.specs.Places.{places_moved}
use Rattle.groups_change.proofs.pieces.move_places.Given as goal

abbrev pub invariant-loop : goal.invariant-loop
invariant-loop l =
    (l.at + (l.count - l.counter) * 27 ≤ length l.region) × (length l.region ≡ length l.initial.region)
    × (take l.at l.region ++ places_moved l.from l.add l.sub (l.count - l.counter) (drop l.at l.region) ≡ take 308 l.initial.region ++ places_moved l.from l.add l.sub l.count (drop 308 l.initial.region))
