-- `remove_consumer` meets its contract: the places are moved, the field spliced out, the number of consumers stored. Assumes nothing.
use mathlib.Core.Path.{◌≡◌, ap, ◌∙◌}
use mathlib.Core.List.{List, []}
use Prim.Native.Nat.{ℕ, ◌+◌, ◌-◌, ◌*◌}
use native.Mathlib.Omega.{arith}
use lib.ListN.{length, set, length-set}
use Rattle.octets.specs.Place.{spliced}
use Rattle.groups.proofs.Laws.{sound_tested}
use Rattle.groups_change.proofs.Members.{consumer_cut}
use Rattle.groups_change.proofs.consumers.remove_consumer.Goals as goal
use Rattle.groups_change.proofs.consumers.remove_consumer.Goals.{After-slice_known-1, After-splice}

size : (c : After-slice_known-1) → length c.args.region.now ≡ 7220
size c = (sound_tested c.args.region.now c.requires.0).size

spliced_size : (c : After-splice) → length c.splice.new.s ≡ 7220
spliced_size c = let the_size : length c.args.region.now ≡ 7220 = (sound_tested c.args.region.now c.requires.0).size in c.splice.auto.s ∙ c.move_places.auto.region ∙ the_size

pub move_places-requires : goal.move_places-requires
move_places-requires c = (omega (arith, c.pending_count-count.ensures.1, size (goal.at.move_places-requires c).After-slice_known-1), omega arith, omega arith)

pub splice-requires : goal.splice-requires
splice-requires c =
    let n = c.consumer_count-n in
    let l = c.move_places.auto.region ∙ size (goal.at.splice-requires c).After-slice_known-1 in
    (omega (arith, n.ensures.0, c.requires.1), omega (arith, n.ensures.1), omega (arith, n.ensures.1, n.ensures.0, c.requires.1))

pub bounds-region-33 : goal.bounds-region-33
bounds-region-33 c = omega (arith, spliced_size (goal.at.bounds-region-33 c).After-splice)

pub shape_of-region : goal.shape_of-region
shape_of-region c = length-set c.splice.new.s 33 (c.consumer_count-n.result - 1) ∙ c.splice.auto.s ∙ c.move_places.auto.region

pub returns : goal.returns
returns c =
    let n = c.consumer_count-n in
    let m = c.pending_count-count in
    ap (λ (l : List ℕ). set l 33 (n.result - 1))
    (c.splice.ensures.1 ∙ ap (λ (l : List ℕ). spliced l (34 + n.result * 17) (34 + c.args.k * 17) 17 []) c.move_places.ensures)
    ∙ consumer_cut c.args.region.now c.requires.0 c.args.k n.result m.result c.requires.1 c.requires.2 n.ensures.0 m.ensures.0
