-- `next_of` meets its contract: the search of what is left is the whole search. Assumes nothing.
use mathlib.Core.Path.{◌≡◌}
use mathlib.Core.List.{[]}
use Prim.Native.Nat.{◌+◌, ◌-◌, ◌*◌, ◌≤◌}
use lib.ListN.{drop, get_or}
use Rattle.groups.specs.Parse.{all_pending_in, group_in}
use Rattle.groups.specs.Step.{next_pending}
use Rattle.groups.proofs.Searched.{next_from}
use Rattle.groups.proofs.reading.next_of.Given as goal

abbrev pub invariant-loop : goal.invariant-loop
invariant-loop l =
    (l.at + (l.count - l.counter) * 27 ≤ 7220)
    × (next_from (get_or (group_in l.region).consumers l.consumer []) l.after (all_pending_in (l.count - l.counter) (group_in l.region).consumers (drop l.at l.region))
    ≡ next_pending (get_or (group_in l.region).consumers l.consumer []) l.after (group_in l.region))
