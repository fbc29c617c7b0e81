-- `remove_entries` meets its contract: the rows of the others, zeros for those that went, the number. Assumes nothing.
use mathlib.Core.Path.{◌≡◌, ap, ◌∙◌}
use mathlib.Core.List.{List}
use Prim.Native.Nat.{ℕ, ◌+◌, ◌-◌, ◌*◌}
use native.Mathlib.Omega.{arith}
use lib.ListN.{length}
use Rattle.octets.specs.Bytes.{le, zeros}
use Rattle.octets.specs.Place.{put}
use Rattle.groups.proofs.Laws.{sound_tested}
use Rattle.groups_change.proofs.Gathered.{count_gone, region_left}
use Rattle.groups_change.proofs.entries.remove_entries.Goals as goal
use Rattle.groups_change.proofs.entries.remove_entries.Goals.{After-gather_others-kept, After-pending_count-n}

-- the length, and that the entries lie within
size : (c : After-pending_count-n) → length c.args.region.now ≡ 7220
size c = (sound_tested c.args.region.now c.requires.0).size

size_gathered : (c : After-gather_others-kept) → length c.gather_others-kept.new.region ≡ 7220
size_gathered c = let the_size : length c.args.region.now ≡ 7220 = (sound_tested c.args.region.now c.requires.0).size in c.gather_others-kept.auto.region ∙ the_size

pub pending_count-n-requires : goal.pending_count-n-requires
pending_count-n-requires c = c.requires.0

pub gather_others-kept-requires : goal.gather_others-kept-requires
gather_others-kept-requires c = omega (arith, size (goal.at.gather_others-kept-requires c).After-pending_count-n, c.pending_count-n.ensures.1)

pub overflow_mul-kept : goal.overflow_mul-kept
overflow_mul-kept c = omega (arith, c.gather_others-kept.ensures.1, c.pending_count-n.ensures.1)

pub overflow_add-kept : goal.overflow_add-kept
overflow_add-kept c = omega (arith, c.gather_others-kept.ensures.1, c.pending_count-n.ensures.1)

pub overflow_sub-n : goal.overflow_sub-n
overflow_sub-n c = omega (arith, c.gather_others-kept.ensures.1)

pub overflow_mul-n : goal.overflow_mul-n
overflow_mul-n c = omega (arith, c.gather_others-kept.ensures.1, c.pending_count-n.ensures.1)

pub zero-requires : goal.zero-requires
zero-requires c = omega (arith, size_gathered (goal.at.zero-requires c).After-gather_others-kept, c.gather_others-kept.ensures.1, c.pending_count-n.ensures.1)

pub write_le-requires : goal.write_le-requires
write_le-requires c = (omega arith, omega (arith, c.zero.auto.d, size_gathered (goal.at.write_le-requires c).After-gather_others-kept))

pub overflow_sub-result : goal.overflow_sub-result
overflow_sub-result c = omega (arith, c.gather_others-kept.ensures.1)

pub shape_of-region : goal.shape_of-region
shape_of-region c = c.write_le.auto.d ∙ c.zero.auto.d ∙ c.gather_others-kept.auto.region

pub returns : goal.returns
returns c =
    let n = c.pending_count-n in
    let s = c.args.region.now in
    let m = c.gather_others-kept.result in (
      count_gone s c.requires.0 c.args.k c.requires.1 n.result n.ensures.0 m c.gather_others-kept.ensures.0,
      c.write_le.ensures
          ∙ ap (λ (l : List ℕ). put l 306 (le 2 m)) (c.zero.ensures ∙ ap (λ (l : List ℕ). put l (308 + m * 27) (zeros ((n.result - m) * 27))) c.gather_others-kept.ensures.2)
          ∙ region_left s c.requires.0 c.args.k c.requires.1 n.result n.ensures.0 m c.gather_others-kept.ensures.0,
    )
