-- `spot_of` meets its contract: the search of what is left is the whole search. Assumes nothing.
use mathlib.Core.Path.{◌≡◌}
use Prim.Native.Nat.{◌+◌, ◌-◌, ◌*◌, ◌≤◌}
use lib.ListN.{drop}
use Rattle.groups.specs.Parse.{names_in, group_in}
use Rattle.groups.specs.Answer.{spot_from}
use Rattle.groups.proofs.reading.spot_of.Given as goal

abbrev pub invariant-loop-k : goal.invariant-loop-k
invariant-loop-k l = (l.at + (l.count - l.k) * 17 ≤ 306) × (l.k ≤ l.at) × (spot_from l.k l.name (names_in (l.count - l.k) (drop l.at l.region)) ≡ spot_from 0 l.name (group_in l.region).consumers)
