-- `remove_entry` meets its contract. Assumes nothing.
use mathlib.Core.Path.{◌≡◌, ap, ◌∙◌}
use mathlib.Core.List.{List}
use Prim.Native.Nat.{ℕ, ◌-◌}
use native.Mathlib.Omega.{arith}
use lib.ListN.{length}
use Rattle.octets.specs.Bytes.{le}
use Rattle.octets.specs.Place.{put}
use Rattle.groups.proofs.Laws.{sound_tested}
use Rattle.groups_change.proofs.Changes.{entry_removed}
use Rattle.groups_change.proofs.entries.remove_entry.Goals as goal
use Rattle.groups_change.proofs.entries.remove_entry.Goals.{After-pending_count-n}

size : (c : After-pending_count-n) → length c.args.region.now ≡ 7220
size c = (sound_tested c.args.region.now c.requires.0).size

pub splice-requires : goal.splice-requires
splice-requires c = (omega arith, omega (arith, size (goal.at.splice-requires c).After-pending_count-n), omega (arith, size (goal.at.splice-requires c).After-pending_count-n))

pub write_le-requires : goal.write_le-requires
write_le-requires c = (omega arith, omega (arith, c.splice.auto.s, size (goal.at.write_le-requires c).After-pending_count-n))

pub returns : goal.returns
returns c =
    let n = c.pending_count-n in
    c.write_le.ensures
    ∙ ap (λ (l : List ℕ). put l 306 (le 2 (n.result - 1))) c.splice.ensures.1
    ∙ entry_removed c.args.region.now c.requires.0 n.result c.args.i n.ensures.0 c.requires.1
