-- `create_at` meets its contract, by the laws of its answers. Assumes nothing.
use mathlib.Core.Path.{◌≡◌, refl, sym, ap, ◌∙◌}
use mathlib.Core.List.{List}
use Prim.Native.Nat.{ℕ, ◌+◌, ◌-◌, ◌*◌, ◌<◌}
use borrow.Rule.Slice.PartMut.{put_mid, same_len_mid}
use native.Mathlib.Omega.{arith}
use lib.ListN.{length, take, drop}
use Rattle.octets.specs.Place.{put}
use Rattle.octets.proofs.Laws.{part_put, length_area, part_is}
use Rattle.groups.specs.Bytes.{region_bytes}
use Rattle.groups.specs.Step.{new_group}
use Rattle.group_area.specs.Answer.{groups_in}
use Rattle.group_area.proofs.Found.{sound_size}
use Rattle.group_area.proofs.Answers.{full, room, create_full, create_done, new_within, created}
use Rattle.group_area.proofs.changing.create_at.Goals as goal
use Rattle.group_area.proofs.changing.create_at.Goals.{After-move_within, After-write_new-arg-1, Else-s-ne0}

size : (c : Else-s-ne0) → length c.args.s.now ≡ 57760
size c = sound_size c.args.s.now c.requires.0

some_room : (c : Else-s-ne0) → length (groups_in c.args.s.now) < 8
some_room c = room c.args.s.now c.requires.0 (omega arith)

within : (c : Else-s-ne0) → c.args.k < 8
within c = omega (arith, new_within c.args.s.now c.requires.0 c.args.name.now c.args.k c.requires.3, some_room c)

moved : (c : After-move_within) → length c.move_within.new.s ≡ 57760
moved c = let the_size : length c.args.s.now ≡ 57760 = sound_size c.args.s.now c.requires.0 in c.move_within.auto.s ∙ the_size

lent : (c : After-write_new-arg-1) → let at = c.args.k * 7220 in length (take (at + 7220 - at) (drop at c.move_within.new.s)) ≡ 7220
lent c =
    let the_within : c.args.k < 8 = let the_some_room : length (groups_in c.args.s.now) < 8 = room c.args.s.now c.requires.0 (omega arith) in omega (arith, new_within c.args.s.now c.requires.0 c.args.name.now c.args.k c.requires.3, the_some_room) in let the_moved : length c.move_within.new.s ≡ 57760 = let the_size : length c.args.s.now ≡ 57760 = sound_size c.args.s.now c.requires.0 in c.move_within.auto.s ∙ the_size in let at : ℕ = c.args.k * 7220 in
    let m : List ℕ = c.move_within.new.s in
    ap length (part_is at 7220 m) ∙ length_area at 7220 m (omega (arith, the_within, the_moved))

pub bounds-s-50540 : goal.bounds-s-50540
bounds-s-50540 c = omega (arith, sound_size c.args.s.now c.requires.0)

pub returns-then-s-ne0 : goal.returns-then-s-ne0
returns-then-s-ne0 c = (sym (create_full c.args.s.now c.requires.0 c.args.name.now c.args.k c.requires.3 (full c.args.s.now c.requires.0 (omega arith))), refl)

pub overflow_mul-at : goal.overflow_mul-at
overflow_mul-at c = omega (arith, within (goal.at.overflow_mul-at c).Else-s-ne0)

pub overflow_add-at : goal.overflow_add-at
overflow_add-at c = omega (arith, within (goal.at.overflow_add-at c).Else-s-ne0)

pub overflow_sub-at : goal.overflow_sub-at
overflow_sub-at c = omega (arith, within (goal.at.overflow_sub-at c).Else-s-ne0)

pub move_within-requires : goal.move_within-requires
move_within-requires c = omega (arith, within (goal.at.move_within-requires c).Else-s-ne0, size (goal.at.move_within-requires c).Else-s-ne0)

pub overflow_add-at-2 : goal.overflow_add-at-2
overflow_add-at-2 c = omega (arith, within (goal.at.overflow_add-at-2 c).Else-s-ne0)

pub slice_bounds-write_new-end : goal.slice_bounds-write_new-end
slice_bounds-write_new-end c = omega (arith, within (goal.at.slice_bounds-write_new-end c).Else-s-ne0, moved (goal.at.slice_bounds-write_new-end c).After-move_within)

pub write_new-requires : goal.write_new-requires
write_new-requires c = (lent (goal.at.write_new-requires c).After-write_new-arg-1, c.requires.2)

pub shape_of-s : goal.shape_of-s
shape_of-s c =
    let at : ℕ = c.args.k * 7220 in
    same_len_mid at (at + 7220 - at) c.move_within.new.s c.write_new.new.r c.write_new.auto.r
    ∙ c.move_within.auto.s

pub returns : goal.returns
returns c =
    let at : ℕ = c.args.k * 7220 in
    let r : List ℕ = region_bytes (new_group c.args.name.now c.args.start) in
    let m : List ℕ = c.move_within.new.s in
    let e : at + 7220 - at ≡ 7220 = omega arith in
    let l : length r ≡ 7220 = ap length (sym c.write_new.ensures) ∙ c.write_new.auto.r ∙ lent (goal.at.returns c).After-write_new-arg-1 in
    let p : c.write_new.new.r ≡ r = c.write_new.ensures in (
      sym (create_done c.args.s.now c.requires.0 c.args.name.now c.args.k c.requires.3 (some_room (goal.at.returns c).Else-s-ne0)),
      ap (put_mid at (at + 7220 - at) m) p
          ∙ part_put m at r (at + 7220 - at) (l ∙ sym e)
          ∙ ap (λ (s : List ℕ). put s at r) c.move_within.ensures
          ∙ created c.args.s.now c.requires.0 c.args.name.now c.args.k c.requires.3 c.args.start (some_room (goal.at.returns c).Else-s-ne0) l,
    )
