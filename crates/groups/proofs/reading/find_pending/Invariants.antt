-- `find_pending` meets its contract: the search of what is left is the whole search. Assumes nothing.
use mathlib.Core.Path.{◌≡◌}
use mathlib.Core.Bool.{true}
use Prim.Native.Nat.{◌+◌, ◌-◌, ◌*◌, ◌≤◌}
use lib.ListN.{drop}
use Rattle.groups.specs.Group.{are_pending}
use Rattle.groups.specs.Parse.{all_pending_in, group_in}
use Rattle.groups.specs.Answer.{held_in}
use Rattle.groups.proofs.Searched.{held_from}
use Rattle.groups.proofs.reading.find_pending.Given as goal

abbrev pub invariant-loop-k : goal.invariant-loop-k
invariant-loop-k l =
    (l.at + (l.count - l.k) * 27 ≤ 7220) × (l.k ≤ l.at)
    × (are_pending (group_in l.region).consumers (all_pending_in (l.count - l.k) (group_in l.region).consumers (drop l.at l.region)) ≡ true)
    × (held_from (group_in l.region).consumers l.k l.id (all_pending_in (l.count - l.k) (group_in l.region).consumers (drop l.at l.region)) ≡ held_in l.id (group_in l.region))
