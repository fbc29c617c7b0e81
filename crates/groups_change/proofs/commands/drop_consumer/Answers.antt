-- `drop_consumer` meets its contract: the entries first, then the consumer. Assumes nothing.
use mathlib.Core.Path.{◌≡◌, sym, ap, ap₂, ◌∙◌, subst}
use mathlib.Core.Bool.{true}
use mathlib.Core.List.{List, []}
use Prim.Native.Nat.{ℕ, ◌<◌, ◌-◌}
use lib.ListN.{length, get_or}
use Rattle.groups.specs.Group.{Group, is_group}
use Rattle.groups.specs.Bytes.{region_bytes}
use Rattle.groups.specs.Parse.{group_in}
use Rattle.groups.specs.Step.{pending_of, pending_of_others}
use Rattle.groups.specs.Answer.{SoundRegion}
use Rattle.groups.proofs.Laws.{FoundName, found_name, absent_name, rules, is_group_lem, sound_region_lem, group_in_lem, others_within, drop_unknown, count_unknown}
use Rattle.groups_change.specs.Change.{with_pending, without_consumer}
use Rattle.groups_change.proofs.Dropped.{within_rules, none_of_others, drop_is}
use Rattle.groups_change.proofs.commands.drop_consumer.Goals as goal
use Rattle.groups_change.proofs.commands.drop_consumer.Goals.{After-remove_entries-gone, In-Some}

-- the group without the consumer's entries
abbrev left : Group → List ℕ → Group
left g c = with_pending (pending_of_others c g.pending) g

kept : (g : Group) (c : List ℕ) → is_group g ≡ true → is_group (left g c) ≡ true
kept g c e = is_group_lem (left g c) (within_rules g (pending_of_others c g.pending) (rules g e) (others_within c g.pending))

found : (c : In-Some) → let x = c.args in
    FoundName x.consumer.now (group_in x.region.now).consumers c.in-Some.k
found c =
    let x = c.args in
    found_name x.consumer.now (group_in x.region.now).consumers c.in-Some.k (sym c.find_consumer.ensures ∙ c.in-Some.is)

region_left : (c : After-remove_entries-gone) → let x = c.args in c.remove_entries-gone.new.region ≡ region_bytes (left (group_in x.region.now) x.consumer.now)
region_left c =
    let the_found : let x = c.args in
    FoundName x.consumer.now (group_in x.region.now).consumers c.in-Some.k = let x = c.args in
    found_name x.consumer.now (group_in x.region.now).consumers c.in-Some.k (sym c.find_consumer.ensures ∙ c.in-Some.is) in let x = c.args in
    c.remove_entries-gone.ensures.1 ∙ ap (λ (n : List ℕ). region_bytes (left (group_in x.region.now) n)) (the_found).stands

group_left : (c : After-remove_entries-gone) → let x = c.args in group_in c.remove_entries-gone.new.region ≡ left (group_in x.region.now) x.consumer.now
group_left c =
    let g = group_in c.args.region.now in
    ap group_in (region_left c) ∙ group_in_lem (left g c.args.consumer.now) (kept g c.args.consumer.now c.requires.rules_kept)

-- the place is still the consumer's, and it has no entries left
named : (c : After-remove_entries-gone) → get_or (group_in c.remove_entries-gone.new.region).consumers c.in-Some.k [] ≡ c.args.consumer.now
named c =
    let the_found : let x = c.args in
    FoundName x.consumer.now (group_in x.region.now).consumers c.in-Some.k = let x = c.args in
    found_name x.consumer.now (group_in x.region.now).consumers c.in-Some.k (sym c.find_consumer.ensures ∙ c.in-Some.is) in ap (λ (g : Group). get_or g.consumers c.in-Some.k []) (group_left c) ∙ (the_found).stands

pub returns-in_default : goal.returns-in_default
returns-in_default c =
    let g = group_in c.args.region.now in
    let n = c.args.consumer.now in
    let u = absent_name n g.consumers (sym c.find_consumer.ensures ∙ c.in_default.is) in
    (sym (count_unknown n g c.requires.rules_kept u), c.requires.laid ∙ ap region_bytes (sym (drop_unknown n g c.requires.rules_kept u)))

pub remove_entries-gone-requires : goal.remove_entries-gone-requires
remove_entries-gone-requires c = (c.requires, (found (goal.at.remove_entries-gone-requires c).In-Some).within)

pub remove_consumer-requires : goal.remove_consumer-requires
remove_consumer-requires c =
    let g = group_in c.args.region.now in
    let n = c.args.consumer.now in (
      subst SoundRegion (sym (region_left (goal.at.remove_consumer-requires c).After-remove_entries-gone)) (sound_region_lem (left g n) (kept g n c.requires.rules_kept)),
      subst (λ (y : Group). c.in-Some.k < length y.consumers) (sym (group_left (goal.at.remove_consumer-requires c).After-remove_entries-gone)) (found (goal.at.remove_consumer-requires c).In-Some).within,
      ap₂ pending_of (named (goal.at.remove_consumer-requires c).After-remove_entries-gone) (ap (λ (y : Group). y.pending) (group_left (goal.at.remove_consumer-requires c).After-remove_entries-gone)) ∙ none_of_others n g.pending,
    )

pub returns : goal.returns
returns c =
    let x = c.args in
    let g = group_in x.region.now in
    let n = x.consumer.now in (
      c.remove_entries-gone.ensures.0 ∙ ap (λ (m : List ℕ). length (pending_of m g.pending)) (found (goal.at.returns c).In-Some).stands,
      c.remove_consumer.ensures
          ∙ ap₂ (λ (m : List ℕ) (y : Group). region_bytes (without_consumer m y)) (named (goal.at.returns c).After-remove_entries-gone) (group_left (goal.at.returns c).After-remove_entries-gone)
          ∙ ap region_bytes (drop_is n g),
    )
