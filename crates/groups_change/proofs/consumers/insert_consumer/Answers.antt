-- `insert_consumer` meets its contract: the places are moved, the field spliced in, the number of consumers stored. Assumes nothing.
use mathlib.Core.Path.{◌≡◌, ap, ap₂, ◌∙◌}
use mathlib.Core.List.{List}
use Prim.Native.Nat.{ℕ, ◌+◌, ◌*◌, ◌≤◌, ◌-◌}
use native.Mathlib.Omega.{arith}
use lib.ListN.{length, set, length-set}
use Rattle.octets.specs.Place.{spliced}
use Rattle.groups.specs.Parse.{group_in}
use Rattle.groups.proofs.Laws.{sound_tested, length_field}
use Rattle.groups_change.proofs.Members.{consumer_put, spot_within}
use Rattle.groups_change.proofs.consumers.insert_consumer.Goals as goal
use Rattle.groups_change.proofs.consumers.insert_consumer.Goals.{After-slice_known-1, After-splice}

size : (c : After-slice_known-1) → length c.args.region.now ≡ 7220
size c = (sound_tested c.args.region.now c.requires.0).size

within : (c : After-slice_known-1) → c.args.k ≤ length (group_in c.args.region.now).consumers
within c = spot_within c.args.region.now c.requires.0 c.args.name.now c.args.k c.requires.2

spliced_size : (c : After-splice) → length c.splice.new.s ≡ 7220
spliced_size c = let the_size : length c.args.region.now ≡ 7220 = (sound_tested c.args.region.now c.requires.0).size in c.splice.auto.s ∙ c.move_places.auto.region ∙ the_size

pub move_places-requires : goal.move_places-requires
move_places-requires c = (omega (arith, c.pending_count-count.ensures.1, size (goal.at.move_places-requires c).After-slice_known-1), omega arith, omega arith)

pub overflow_mul-k : goal.overflow_mul-k
overflow_mul-k c = omega (arith, within (goal.at.overflow_mul-k c).After-slice_known-1)

pub overflow_add-k : goal.overflow_add-k
overflow_add-k c = omega (arith, within (goal.at.overflow_add-k c).After-slice_known-1)

pub splice-requires : goal.splice-requires
splice-requires c =
    let n = c.consumer_count-n in
    let w = within (goal.at.splice-requires c).After-slice_known-1 in
    let l = c.move_places.auto.region ∙ size (goal.at.splice-requires c).After-slice_known-1 in
    let f = ap length c.name_field-field.ensures ∙ length_field c.args.name.now c.requires.1 in
    (omega (arith, n.ensures.0), omega (arith, n.ensures.1), omega (arith, n.ensures.1, n.ensures.0, c.requires.3))

pub bounds-region-33 : goal.bounds-region-33
bounds-region-33 c = omega (arith, spliced_size (goal.at.bounds-region-33 c).After-splice)

pub shape_of-region : goal.shape_of-region
shape_of-region c = length-set c.splice.new.s 33 (c.consumer_count-n.result + 1) ∙ c.splice.auto.s ∙ c.move_places.auto.region

pub returns : goal.returns
returns c =
    let n = c.consumer_count-n in
    let m = c.pending_count-count in
    ap (λ (l : List ℕ). set l 33 (n.result + 1))
    (c.splice.ensures.1 ∙ ap₂ (λ (l f : List ℕ). spliced l (34 + n.result * 17) (34 + c.args.k * 17) 0 f) c.move_places.ensures c.name_field-field.ensures)
    ∙ consumer_put c.args.region.now c.requires.0 c.args.name.now c.args.k n.result m.result c.requires.2 c.requires.1 c.requires.3 n.ensures.0 m.ensures.0
