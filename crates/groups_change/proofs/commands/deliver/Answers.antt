-- `deliver` meets its contract: a refusal changes nothing, and without one the entry is the group's last. Assumes nothing.
use mathlib.Core.Path.{◌≡◌, refl, sym, ap, ◌∙◌}
use mathlib.Core.Bool.{true}
use mathlib.Core.List.{List}
use Rattle.std.proofs.Common.{None}
use Rattle.std.specs.Result.{result_err}
use Rattle.std.proofs.lemmas.Result.{err_from_is_err_and}
use Prim.Native.Nat.{ℕ, ◌+◌, ◌-◌}
use native.Mathlib.Omega.{arith}
use lib.ListN.{length}
use Rattle.octets.specs.Bytes.{Bytes}
use Rattle.id.proofs.Laws.{fits_id}
use Rattle.groups.specs.Group.{is_name}
use Rattle.groups.specs.Parse.{group_in}
use Rattle.groups.proofs.Laws.{is_name_lem, sound_tested}
use Rattle.groups_change.specs.Change.{refusal_to_deliver}
use Rattle.groups_change.proofs.Batches.{row_put, noted, delivered_region}
use Rattle.groups_change.proofs.Changes.{deliver_free}
use Rattle.groups_change.proofs.commands.deliver.Goals as goal
use Rattle.groups_change.proofs.commands.deliver.Goals.{After-make_consumer-place, After-shared_slice_known-1, In_ok-check_delivery}

name : (c : After-shared_slice_known-1) → is_name c.args.consumer.now ≡ true
name c =
    let b : Bytes c.args.consumer.now = record { byte = λ j. (c.type_inv.consumer j).fits } in
    is_name_lem c.args.consumer.now c.requires.1 c.requires.2 b

free : (c : In_ok-check_delivery) → refusal_to_deliver c.args.consumer.now (group_in c.args.region.now) ≡ None
free c = sym c.check_delivery.ensures ∙ ap result_err c.in_ok-check_delivery.was

size : (c : After-make_consumer-place) → length c.make_consumer-place.new.region ≡ 7220
size c = c.make_consumer-place.auto.region ∙ (sound_tested c.args.region.now c.requires.0).size

pub returns-in_err-check_delivery : goal.returns-in_err-check_delivery
returns-in_err-check_delivery c =
    let p = err_from_is_err_and c.from_residual.result c.from_residual.ensures.1 in
    (rw (p.1, p.2) (sym (ap result_err c.in_err-check_delivery.was) ∙ c.check_delivery.ensures), rw p.1 refl)

pub make_consumer-place-requires : goal.make_consumer-place-requires
make_consumer-place-requires c = (c.requires.0, c.requires.1, c.requires.2, (deliver_free _ _ (free (goal.at.make_consumer-place-requires c).In_ok-check_delivery)).0)

pub write_row-requires : goal.write_row-requires
write_row-requires c = (size (goal.at.write_row-requires c).After-make_consumer-place, omega (arith, (deliver_free _ _ (free (goal.at.write_row-requires c).In_ok-check_delivery)).1), omega (arith, c.make_consumer-place.ensures.1))

pub note_delivered-requires : goal.note_delivered-requires
note_delivered-requires c = (c.write_row.auto.region ∙ size (goal.at.note_delivered-requires c).After-make_consumer-place, omega (arith, (deliver_free _ _ (free (goal.at.note_delivered-requires c).In_ok-check_delivery)).1))

pub returns : goal.returns
returns c =
    let a = c.args in
    let n = c.pending_count-n in
    let m = c.make_consumer-place in
    let f = deliver_free a.consumer.now (group_in a.region.now) (free (goal.at.returns c).In_ok-check_delivery) in (
      sym (free (goal.at.returns c).In_ok-check_delivery),
      c.note_delivered.ensures
          ∙ ap (λ (l : List ℕ). noted l (n.result + 1) a.id)
          (c.write_row.ensures ∙ ap (λ (l : List ℕ). row_put m.result a.time l n.result a.id) m.ensures.2)
          ∙ delivered_region a.consumer.now a.time m.result (name (goal.at.returns c).After-shared_slice_known-1) (omega arith) a.region.now c.requires.0 f.0 a.id
          (fits_id a.id (record { ms_fits = omega arith; seq_fits = omega arith })) c.requires.3 n.result n.ensures.0 (omega (arith, f.1, n.ensures.0)) m.ensures.0,
    )
