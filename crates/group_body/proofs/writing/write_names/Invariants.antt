-- `write_names` meets its contract: what is written and what is left is the whole. Assumes nothing.
use mathlib.Core.Path.{◌≡◌}
use mathlib.Core.Bool.{true}
use Prim.Native.Nat.{◌+◌, ◌-◌, ◌*◌, ◌≤◌}
use lib.ListN.{length, drop}
use Rattle.octets.specs.Place.{put}
use Rattle.groups.specs.Group.{are_names}
use Rattle.groups.specs.Bytes.{all_names}
use Rattle.groups.specs.Parse.{names_in, group_in}
use Rattle.group_body.proofs.writing.write_names.Given as goal

abbrev pub invariant-loop : goal.invariant-loop
invariant-loop l =
    (l.i + (l.count - l.counter) * 17 ≤ 306) × (length l.d ≡ length l.initial.d) × (are_names (names_in (l.count - l.counter) (drop l.i l.region)) ≡ true)
    × (l.to + length (all_names (names_in (l.count - l.counter) (drop l.i l.region))) ≡ l.at + length (all_names (group_in l.region).consumers))
    × (put l.d l.to (all_names (names_in (l.count - l.counter) (drop l.i l.region))) ≡ put l.initial.d l.at (all_names (group_in l.region).consumers))
