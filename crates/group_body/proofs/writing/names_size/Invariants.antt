-- `names_size` meets its contract: what is counted and what is left is the whole. Assumes nothing.
use mathlib.Core.Path.{◌≡◌}
use mathlib.Core.Bool.{true}
use Prim.Native.Nat.{◌+◌, ◌-◌, ◌*◌, ◌≤◌}
use lib.ListN.{length, drop}
use Rattle.groups.specs.Group.{are_names}
use Rattle.groups.specs.Bytes.{all_names}
use Rattle.groups.specs.Parse.{names_in, group_in}
use Rattle.group_body.proofs.writing.names_size.Given as goal

abbrev pub invariant-loop : goal.invariant-loop
invariant-loop l =
    (l.i + (l.count - l.counter) * 17 ≤ 306) × (l.size + (l.count - l.counter) * 17 ≤ 272) × (are_names (names_in (l.count - l.counter) (drop l.i l.region)) ≡ true)
    × (l.size + length (all_names (names_in (l.count - l.counter) (drop l.i l.region))) ≡ length (all_names (group_in l.region).consumers))
