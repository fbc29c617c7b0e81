-- `write_new` meets its contract by the law of its steps. Assumes nothing.
use mathlib.Core.Path.{◌≡◌, ap, ◌∙◌}
use mathlib.Core.List.{List}
use Prim.Native.Nat.{ℕ}
use native.Mathlib.Omega.{arith}
use lib.ListN.{length, set, length-set}
use Rattle.octets.specs.Place.{put}
use Rattle.id.specs.Bytes.{id_bytes}
use Rattle.group_area.proofs.Fresh.{new_region}
use Rattle.group_area.proofs.changing.write_new.Goals as goal
use Rattle.group_area.proofs.changing.write_new.Goals.{After-copy_in, After-zero}

zeroed : (c : After-zero) → length c.zero.new.d ≡ 7220
zeroed c = c.zero.auto.d ∙ c.requires.0

named : (c : After-copy_in) → length c.copy_in.new.d ≡ 7220
named c = let the_zeroed : length c.zero.new.d ≡ 7220 = c.zero.auto.d ∙ c.requires.0 in c.copy_in.auto.d ∙ length-set c.zero.new.d 0 (length c.args.name.now) ∙ the_zeroed

pub copy_in-requires : goal.copy_in-requires
copy_in-requires c = simp length-set (omega (arith, zeroed (goal.at.copy_in-requires c).After-zero, c.requires.1))

pub write_id-requires : goal.write_id-requires
write_id-requires c = omega (arith, named (goal.at.write_id-requires c).After-copy_in)

pub shape_of-r : goal.shape_of-r
shape_of-r c = c.write_id.auto.d ∙ c.copy_in.auto.d ∙ length-set c.zero.new.d 0 (length c.args.name.now) ∙ c.zero.auto.d

pub returns : goal.returns
returns c =
    let x = c.args in
    c.write_id.ensures
    ∙ ap (λ (l : List ℕ). put l 17 (id_bytes x.start))
    (c.copy_in.ensures
    ∙ ap (λ (l : List ℕ). put (set l 0 (length x.name.now)) 1 x.name.now) c.zero.ensures)
    ∙ new_region x.name.now x.start c.requires.1 x.r.now c.requires.0
