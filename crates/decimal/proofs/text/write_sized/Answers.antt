use mathlib.Core.Path.{◌≡◌, refl, sym, ap, ◌∙◌}
use Prim.Native.Nat.{ℕ, ◌+◌, ◌/◌}
use native.Mathlib.Omega.{arith}
use lib.ListN.{length, length-set}
use Rattle.octets.specs.Place.{put}
use Rattle.decimal.specs.Text.{natural_text}
use Rattle.decimal.proofs.Natural.{length_one, length_more, natural_two}
use Rattle.decimal.proofs.Writing.{put_turn, put_end}
use Rattle.decimal.proofs.text.write_sized.Goals as goal

pub overflow_add-end : goal.overflow_add-end
overflow_add-end c = omega (arith, c.requires.1)

pub loop-x-init : goal.loop-x-init
loop-x-init c = (omega arith, omega (arith, c.requires.0), omega (arith, c.requires.1), refl, refl)

pub overflow_sub-end : goal.overflow_sub-end
overflow_sub-end c = let x = c.loop-x.x in omega (arith, length_more x (omega arith) (omega arith), length_more (x / 10) (omega arith) (omega arith))

pub write_two-requires : goal.write_two-requires
write_two-requires c = let x = c.loop-x.x in (omega arith, omega (arith, length_more x (omega arith) (omega arith), length_more (x / 10) (omega arith) (omega arith)))

pub loop-x-preserved : goal.loop-x-preserved
loop-x-preserved c =
    let l = c.loop-x in
    let e : l.x / 10 / 10 ≡ l.x / 100 = omega arith in
    let m = length_more l.x (omega arith) (omega arith) in
    let k = length_more (l.x / 10) (omega arith) (omega arith) in
    let s = c.write_two.auto.d in (
      omega arith,
      omega (arith, ap (λ (i : ℕ). length (natural_text i)) e),
      omega (arith, s),
      s ∙ l.invariant.3,
      l.invariant.4 ∙ put_turn l.d _ l.x l.end _ (omega arith) l.invariant.0 l.invariant.1 l.invariant.2 c.write_two.ensures,
    )

pub bounds-d-at : goal.bounds-d-at
bounds-d-at c = omega (arith, length_one c.loop-x.x (omega arith))

pub shape_of-d-then-x-lt10 : goal.shape_of-d-then-x-lt10
shape_of-d-then-x-lt10 c = let l = c.loop-x in length-set l.d _ (48 + l.x) ∙ l.invariant.3

pub returns-then-x-lt10 : goal.returns-then-x-lt10
returns-then-x-lt10 c =
    let l = c.loop-x in
    let m = length_one l.x (omega arith) in
    sym (l.invariant.4 ∙ put_end l.d _ l.x (omega arith) (omega arith))

pub write_two-requires-2 : goal.write_two-requires-2
write_two-requires-2 c = (omega arith, omega (arith, length_more c.loop-x.x (omega arith) (omega arith), length_one (c.loop-x.x / 10) (omega arith)))

pub shape_of-d : goal.shape_of-d
shape_of-d c = c.write_two-2.auto.d ∙ c.loop-x.invariant.3

pub returns : goal.returns
returns c = let l = c.loop-x in c.write_two-2.ensures ∙ sym (l.invariant.4 ∙ ap (put l.d _) (natural_two l.x (omega arith) (omega arith)))
