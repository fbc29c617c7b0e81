-- `spot_of` meets its contract: the search of what is left is the whole search. Assumes nothing.
use mathlib.Core.Path.{◌≡◌}
use Prim.Native.Nat.{◌*◌, ◌≤◌}
use lib.ListN.{drop}
use Rattle.groups.specs.Answer.{spot_from}
use Rattle.groups.specs.Area.{names_of}
use Rattle.group_area.specs.Answer.{groups_in}
use Rattle.group_area.proofs.finding.spot_of.Given as goal

abbrev pub invariant-loop-k : goal.invariant-loop-k
invariant-loop-k l = (l.at ≡ l.k * 7220) × (l.k ≤ 8) × (spot_from l.k l.name (drop l.k (names_of (groups_in l.s))) ≡ spot_from 0 l.name (names_of (groups_in l.s)))
