use mathlib.Core.Path.{◌≡◌, refl, sym, ap, ◌∙◌}
use Prim.Native.Nat.{ℕ, ◌+◌, ◌*◌, ◌-◌}
use native.Mathlib.Omega.{arith}
use Rattle.radix_judge.specs.Visit.{are_free}
use Rattle.radix_judge.proofs.Frees.{free_word}
use Rattle.radix_judge.proofs.free.marked_words.Goals as goal

pub loop-w-init : goal.loop-w-init
loop-w-init c = λ x. refl

pub read_le-requires : goal.read_le-requires
read_le-requires c = omega (arith, c.requires)

pub returns-then-read_le-ne72340172838076673 : goal.returns-then-read_le-ne72340172838076673
returns-then-read_le-ne72340172838076673 c = (omega arith, c.loop-w.invariant)

pub loop-w-preserved : goal.loop-w-preserved
loop-w-preserved c =
    let m = c.args.marks.now in
    let l = c.loop-w in
    let e : 8 * (l.w + 1) ≡ 8 * l.w + 8 = omega arith in
    λ x.
    ap (λ (i : ℕ). are_free x m i (256 - i)) e
    ∙ free_word x m (8 * l.w) (record { byte = λ j. (c.type_inv.marks j).fits }) (omega (arith, c.requires)) (omega arith) (sym c.read_le.ensures.0 ∙ c.if-read_le-ne72340172838076673.false)
    ∙ l.invariant x

pub returns : goal.returns
returns c =
    let m = c.args.marks.now in
    let e : 256 ≡ 8 * c.loop-w.w = omega arith in
    (omega arith, λ x. ap (λ (i : ℕ). are_free x m i (256 - i)) e ∙ c.loop-w.invariant x)
