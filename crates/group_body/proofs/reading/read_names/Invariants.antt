-- `read_names` meets its contract: the names that are read and those that are left are all. Assumes nothing.
use mathlib.Core.Path.{◌≡◌}
use mathlib.Core.Bool.{true}
use Prim.Native.Nat.{◌+◌, ◌-◌, ◌*◌, ◌≤◌}
use lib.ListN.{length, drop}
use Rattle.octets.specs.Place.{put}
use Rattle.groups.specs.Bytes.{all_names, all_name_fields}
use Rattle.group_body.specs.Answer.{names_at, are_names_at}
use Rattle.group_body.proofs.reading.read_names.Given as goal

abbrev pub invariant-loop : goal.invariant-loop
invariant-loop l =
    (l.i ≤ length l.s) × (l.to + (l.count - l.counter) * 17 ≡ 34 + l.count * 17) × (length l.region ≡ length l.initial.region) × (are_names_at (l.count - l.counter) (drop l.i l.s) ≡ true)
    × (l.i + length (all_names (names_at (l.count - l.counter) (drop l.i l.s))) ≡ l.at + length (all_names (names_at l.count (drop l.at l.s))))
    × (put l.region l.to (all_name_fields (names_at (l.count - l.counter) (drop l.i l.s))) ≡ put l.initial.region 34 (all_name_fields (names_at l.count (drop l.at l.s))))
