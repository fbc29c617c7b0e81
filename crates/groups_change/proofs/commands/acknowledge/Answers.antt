-- `acknowledge` meets its contract. Assumes nothing.
use mathlib.Core.Path.{sym, ap, ◌∙◌}
use Prim.Native.Nat.{ℕ, ◌-◌}
use native.Mathlib.Omega.{arith}
use Rattle.groups.specs.Bytes.{region_bytes}
use Rattle.groups.specs.Parse.{group_in}
use Rattle.groups.proofs.Laws.{stands, acknowledge_missing}
use Rattle.groups_change.specs.Change.{with_pending, without_at, found_count}
use Rattle.groups_change.proofs.Changes.{HeldEntry, held_entry, held_missing, acknowledge_found}
use Rattle.groups_change.proofs.commands.acknowledge.Goals as goal
use Rattle.groups_change.proofs.commands.acknowledge.Goals.{In-Some}

found : (c : In-Some) → let x = c.args in
    HeldEntry x.id (group_in x.region.now) c.in-Some.entry
found c =
    let x = c.args in
    held_entry x.id (group_in x.region.now) c.in-Some.entry (sym c.find_pending.ensures ∙ c.in-Some.is)

pub returns-in_default : goal.returns-in_default
returns-in_default c =
    let g = group_in c.args.region.now in
    let f = held_missing c.args.id g (sym c.find_pending.ensures ∙ c.in_default.is) in
    (sym (ap found_count f), c.requires.laid ∙ ap region_bytes (sym (acknowledge_missing c.args.id g f)))

pub remove_entry-requires : goal.remove_entry-requires
remove_entry-requires c =
    let f = found (goal.at.remove_entry-requires c).In-Some in
    (c.requires, omega (arith, f.is_place_lem, (stands c.args.id (group_in c.args.region.now).pending f.found f.is_found).within))

pub returns : goal.returns
returns c =
    let g = group_in c.args.region.now in
    let f = found (goal.at.returns c).In-Some in (
      sym (ap found_count f.is_found),
      c.remove_entry.ensures
          ∙ ap (λ (k : ℕ). region_bytes (with_pending (without_at k g.pending) g)) f.is_place_lem
          ∙ ap region_bytes (acknowledge_found c.args.id g f.found f.is_found),
    )
