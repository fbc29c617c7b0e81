-- `destroy` meets its contract, by the laws of its answers. Assumes nothing.
use mathlib.Core.Path.{◌≡◌, refl, sym, ap, ◌∙◌}
use mathlib.Core.List.{List}
use Prim.Native.Nat.{ℕ, ◌<◌}
use native.Mathlib.Omega.{arith}
use lib.ListN.{length}
use Rattle.octets.specs.Bytes.{zeros}
use Rattle.octets.specs.Place.{put}
use Rattle.groups.specs.declared.Spot.TheVariants.{Known}
use Rattle.groups.specs.Answer.{spot_from}
use Rattle.groups.specs.Area.{names_of}
use Rattle.group_area.specs.Answer.{groups_in}
use Rattle.group_area.proofs.Found.{sound_size}
use Rattle.group_area.proofs.Answers.{known_few, destroy_done, destroy_absent, destroyed}
use Rattle.group_area.proofs.changing.destroy.Goals as goal
use Rattle.group_area.proofs.changing.destroy.Goals.{In-Known}

known : (c : In-Known) → let x = c.args in
    spot_from 0 x.name.now (names_of (groups_in x.s.now)) ≡ Known c.in-Known.k
known c = sym c.spot_of.ensures ∙ c.in-Known.is

within : (c : In-Known) → c.in-Known.k < 8
within c = known_few c.args.s.now c.requires c.args.name.now c.in-Known.k (known c)

size : (c : In-Known) → length c.args.s.now ≡ 57760
size c = sound_size c.args.s.now c.requires

pub overflow_mul-at : goal.overflow_mul-at
overflow_mul-at c = omega (arith, within (goal.at.overflow_mul-at c).In-Known)

pub overflow_add-at : goal.overflow_add-at
overflow_add-at c = omega (arith, within (goal.at.overflow_add-at c).In-Known)

pub overflow_sub-at : goal.overflow_sub-at
overflow_sub-at c = omega (arith, within (goal.at.overflow_sub-at c).In-Known)

pub move_within-requires : goal.move_within-requires
move_within-requires c = omega (arith, within (goal.at.move_within-requires c).In-Known, size (goal.at.move_within-requires c).In-Known)

pub zero-requires : goal.zero-requires
zero-requires c = omega (arith, size (goal.at.zero-requires c).In-Known, c.move_within.auto.s)

pub returns-in-New : goal.returns-in-New
returns-in-New c = (sym (destroy_absent c.args.s.now c.requires c.args.name.now _ (sym c.spot_of.ensures ∙ c.in-New.is)), refl)

pub returns-in-Known : goal.returns-in-Known
returns-in-Known c =
    let k : ℕ = c.in-Known.k in (
      sym (destroy_done c.args.s.now c.requires c.args.name.now k (known (goal.at.returns-in-Known c).In-Known)),
      c.zero.ensures
          ∙ ap (λ (l : List ℕ). put l 50540 (zeros 7220)) c.move_within.ensures
          ∙ destroyed c.args.s.now c.requires c.args.name.now k (known (goal.at.returns-in-Known c).In-Known),
    )
