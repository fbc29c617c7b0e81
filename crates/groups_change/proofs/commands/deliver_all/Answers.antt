use mathlib.Core.Path.{◌≡◌, sym, ap, ap₂, ◌∙◌}
use mathlib.Core.Bool.{true}
use mathlib.Core.List.{List}
use Prim.Native.Nat.{ℕ, ◌+◌, ◌-◌, ◌≤◌}
use native.Mathlib.Omega.{arith}
use lib.ListN.{length}
use Rattle.octets.specs.Bytes.{Bytes}
use Rattle.id.specs.declared.Id.{Id}
use Rattle.groups.specs.Group.{is_name}
use Rattle.groups.specs.Bytes.{region_bytes}
use Rattle.groups.specs.Parse.{group_in}
use Rattle.groups.proofs.Laws.{is_name_lem, sound_tested}
use Rattle.groups_change.specs.Change.{ids_in}
use Rattle.groups_change.proofs.Batches.{ids_from, id_at, row_put, rows_put, noted, ids_count, ids_none, ids_last, rows_start, rows_next, rows_end, batch_region}
use Rattle.groups_change.proofs.commands.deliver_all.Goals as goal
use Rattle.groups_change.proofs.commands.deliver_all.Goals.{After-pending_count-n, After-shared_slice_known-1, Start}

name : (c : After-shared_slice_known-1) → is_name c.args.consumer.now ≡ true
name c =
    let b : Bytes c.args.consumer.now = record { byte = λ j. (c.type_inv.consumer j).fits } in
    is_name_lem c.args.consumer.now c.requires.1 c.requires.2 b

size : (c : Start) → length c.args.region.now ≡ 7220
size c = (sound_tested c.args.region.now c.requires.0).size

-- the entries that there will be
room : (c : After-pending_count-n) → c.pending_count-n.result + c.args.k ≤ 256
room c = omega (arith, c.pending_count-n.ensures.0, c.requires.4)

pub returns-then-k-eq0 : goal.returns-then-k-eq0
returns-then-k-eq0 c = c.requires.0.laid ∙ ap region_bytes (ids_none c.args.consumer.now c.args.time c.args.k c.args.ids.now (group_in c.args.region.now) c.if-k-eq0.true)

pub make_consumer-place-requires : goal.make_consumer-place-requires
make_consumer-place-requires c = (c.requires.0, c.requires.1, c.requires.2, c.requires.3)

pub loop-j-init : goal.loop-j-init
loop-j-init c = (c.make_consumer-place.auto.region ∙ size (goal.at.loop-j-init c).Start, rows_start c.make_consumer-place.result c.args.time c.make_consumer-place.new.region c.pending_count-n.result c.args.k c.args.ids.now)

pub overflow_add-n : goal.overflow_add-n
overflow_add-n c = omega (arith, room (goal.at.overflow_add-n c).After-pending_count-n)

pub overflow_mul-j : goal.overflow_mul-j
overflow_mul-j c = omega (arith, c.requires.5)

pub read_id-requires : goal.read_id-requires
read_id-requires c = omega (arith, c.requires.5)

pub write_row-requires : goal.write_row-requires
write_row-requires c = (c.loop-j.invariant.0, omega (arith, room (goal.at.write_row-requires c).After-pending_count-n), omega (arith, c.make_consumer-place.ensures.1))

pub loop-j-preserved : goal.loop-j-preserved
loop-j-preserved c =
    let a = c.args in
    let m = c.make_consumer-place.result in
    let n = c.pending_count-n.result in
    let l = c.loop-j in (
      c.write_row.auto.region ∙ l.invariant.0,
      ap (λ (s : List ℕ). rows_put m a.time s (n + (l.j + 1)) (ids_from a.k a.ids.now (l.j + 1)))
          (c.write_row.ensures ∙ ap (λ (i : Id). row_put m a.time l.region (n + l.j) i) c.read_id.ensures)
          ∙ rows_next m a.time l.region n a.k a.ids.now l.j (omega arith)
          ∙ l.invariant.1,
    )

pub overflow_add-n-2 : goal.overflow_add-n-2
overflow_add-n-2 c = omega (arith, room (goal.at.overflow_add-n-2 c).After-pending_count-n)

pub overflow_mul-k : goal.overflow_mul-k
overflow_mul-k c = omega (arith, c.requires.5)

pub read_id-requires-2 : goal.read_id-requires-2
read_id-requires-2 c = omega (arith, c.requires.5)

pub note_delivered-requires : goal.note_delivered-requires
note_delivered-requires c = (c.loop-j.invariant.0, omega (arith, room (goal.at.note_delivered-requires c).After-pending_count-n))

pub shape_of-region : goal.shape_of-region
shape_of-region c = c.note_delivered.auto.region ∙ c.loop-j.invariant.0 ∙ sym (size (goal.at.shape_of-region c).Start)

pub returns : goal.returns
returns c =
    let a = c.args in
    let ids = a.ids.now in
    let m = c.make_consumer-place in
    let n = c.pending_count-n in
    let l = c.loop-j in
    c.note_delivered.ensures
    ∙ ap₂ (λ (s : List ℕ) (i : Id). noted s (n.result + a.k) i)
    (rows_end m.result a.time l.region n.result a.k ids l.j (omega arith) ∙ l.invariant.1 ∙ ap (λ (s : List ℕ). rows_put m.result a.time s n.result (ids_in a.k ids)) m.ensures.2) c.read_id-2.ensures
    ∙ batch_region a.consumer.now a.time m.result (name (goal.at.returns c).After-shared_slice_known-1) (omega arith) a.region.now c.requires.0 c.requires.3 (ids_in a.k ids) (omega (arith, ids_count a.k ids)) c.requires.6 n.result (n.result + a.k) (id_at ids (a.k - 1)) n.ensures.0 (omega (arith, ids_count a.k ids)) (room (goal.at.returns c).After-pending_count-n) m.ensures.0
    (ids_last a.consumer.now a.time a.k ids (group_in a.region.now) (omega arith))
