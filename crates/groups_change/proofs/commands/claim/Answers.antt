-- `claim` meets its contract, by the law of each answer. Assumes nothing.
use mathlib.Core.Path.{◌≡◌, refl, sym, ap, ◌∙◌}
use mathlib.Core.Bool.{true, false}
use mathlib.Core.List.{List}
use Rattle.std.proofs.Common.{Option}
use Prim.Native.Nat.{ℕ, ◌+◌, ◌-◌, ◌*◌, ◌<◌, min}
use native.Mathlib.Omega.{arith}
use Rattle.octets.specs.Bytes.{Bytes}
use Rattle.octets.specs.Place.{put}
use Rattle.groups.specs.Group.{Pending, is_name}
use Rattle.groups.specs.Bytes.{region_bytes}
use Rattle.groups.specs.Parse.{group_in}
use Rattle.groups.specs.Step.{lacks_consumer}
use Rattle.groups.proofs.Laws.{is_name_lem, sound_tested, stands, rules}
use Rattle.groups_change.specs.Change.{claimed_as, row_of}
use Rattle.groups_change.proofs.Changes.{HeldEntry, held_entry, held_missing, claim_missing, claim_busy, claim_12, claim_moved}
use Rattle.groups_change.proofs.Members.{claimed_entry}
use Rattle.groups_change.proofs.commands.claim.Goals as goal
use Rattle.groups_change.proofs.commands.claim.Goals.{After-idle_for, After-shared_slice_known-1, Else-lacks_consumer, In-Some}

name : (c : After-shared_slice_known-1) → is_name c.args.consumer.now ≡ true
name c =
    let b : Bytes c.args.consumer.now = record { byte = λ j. (c.type_inv.consumer j).fits } in
    is_name_lem c.args.consumer.now c.requires.1 c.requires.2 b

abbrev found : (c : In-Some) → let x = c.args in
    HeldEntry x.id (group_in x.region.now) c.in-Some.entry
found c =
    let x = c.args in
    held_entry x.id (group_in x.region.now) c.in-Some.entry (sym c.find_pending.ensures ∙ c.in-Some.is)

-- the entry's place is one of 256
within : (c : In-Some) → c.in-Some.entry.place < 256
within c =
    let g = group_in c.args.region.now in
    let f = found c in
    omega (arith, f.is_place_lem, (stands c.args.id g.pending f.found f.is_found).within, (rules g c.requires.0.rules_kept).room)

idle_is : (c : After-idle_for) → let f = (let x = c.args in
    held_entry x.id (group_in x.region.now) c.in-Some.entry (sym c.find_pending.ensures ∙ c.in-Some.is)) in c.idle_for.result ≡ c.args.time - f.found.time
idle_is c =
    let the_found : let x = c.args in
    HeldEntry x.id (group_in x.region.now) c.in-Some.entry = let x = c.args in
    held_entry x.id (group_in x.region.now) c.in-Some.entry (sym c.find_pending.ensures ∙ c.in-Some.is) in let f = the_found in c.idle_for.ensures ∙ ap (λ (t : ℕ). c.args.time - t) (sym f.is_time)

room : (c : Else-lacks_consumer) → lacks_consumer c.args.consumer.now (group_in c.args.region.now) ≡ false
room c = sym c.lacks_consumer.ensures ∙ c.if-lacks_consumer.false

pub returns-in_default : goal.returns-in_default
returns-in_default c =
    let x = c.args in
    let g = group_in x.region.now in
    let e = claim_missing x.consumer.now x.least_idle x.id x.time g (held_missing x.id g (sym c.find_pending.ensures ∙ c.in_default.is)) in
    (e.0, e.1, refl)

pub returns-then-idle_for-least_idle : goal.returns-then-idle_for-least_idle
returns-then-idle_for-least_idle c =
    let x = c.args in
    let f = found (goal.at.returns-then-idle_for-least_idle c).In-Some in
    let e = claim_busy x.consumer.now x.least_idle x.id x.time (group_in x.region.now) f.found f.is_found c.idle_for.result (idle_is (goal.at.returns-then-idle_for-least_idle c).After-idle_for) c.if-idle_for-least_idle.true in
    (e.0, e.1, refl)

pub returns-then-lacks_consumer : goal.returns-then-lacks_consumer
returns-then-lacks_consumer c =
    let x = c.args in
    let f = found (goal.at.returns-then-lacks_consumer c).In-Some in
    let e = claim_12 x.consumer.now x.least_idle x.id x.time (group_in x.region.now) f.found f.is_found c.idle_for.result (idle_is (goal.at.returns-then-lacks_consumer c).After-idle_for) c.if-idle_for-least_idle.false (sym c.lacks_consumer.ensures ∙ c.if-lacks_consumer.true) in
    (e.0, e.1, refl)

pub make_consumer-place-requires : goal.make_consumer-place-requires
make_consumer-place-requires c = (c.requires.0, c.requires.1, c.requires.2, room (goal.at.make_consumer-place-requires c).Else-lacks_consumer)

pub write_row-requires : goal.write_row-requires
write_row-requires c = (c.make_consumer-place.auto.region ∙ (sound_tested c.args.region.now c.requires.0).size, within (goal.at.write_row-requires c).In-Some, omega (arith, c.make_consumer-place.ensures.1))

pub returns : goal.returns
returns c =
    let a = c.args in
    let g = group_in a.region.now in
    let f = found (goal.at.returns c).In-Some in
    let m = c.make_consumer-place in
    let n = c.grown in
    let e = claim_moved a.consumer.now a.least_idle a.id a.time g f.found f.is_found c.idle_for.result (idle_is (goal.at.returns c).After-idle_for) c.if-idle_for-least_idle.false (room (goal.at.returns c).Else-lacks_consumer) in (
      e.0,
      e.1,
      c.write_row.ensures
          ∙ ap (λ (l : List ℕ). put l (308 + c.in-Some.entry.place * 27) (row_of a.id m.result a.time n.result)) m.ensures.2
          ∙ claimed_entry a.region.now c.requires.0 a.consumer.now (name (goal.at.returns c).After-shared_slice_known-1) (room (goal.at.returns c).Else-lacks_consumer) c.in-Some.entry.place m.result a.time n.result a.id f.found f.is_found f.is_place_lem m.ensures.0
          (n.ensures ∙ ap (λ (k : ℕ). min (k + 1) 65535) (sym f.is_count_lem))
          ∙ ap (λ (o : Option Pending). region_bytes (claimed_as a.consumer.now a.time g o)) (sym f.is_found),
    )
