use mathlib.Core.Path.{◌≡◌, refl, ap, ◌∙◌}
use Prim.Native.Nat.{ℕ, ◌-◌}
use native.Mathlib.Omega.{arith}
use Rattle.radix_judge.specs.Visit.{are_free}
use Rattle.radix_judge.proofs.Frees.{free_go, free_marked}
use Rattle.radix_judge.proofs.free.first_free.Goals as goal

pub loop-p-init : goal.loop-p-init
loop-p-init c = c.marked_words-p.ensures.1

pub bounds-marks-p : goal.bounds-marks-p
bounds-marks-p c = omega (arith, c.requires)

pub returns-then-marks-p-eq0 : goal.returns-then-marks-p-eq0
returns-then-marks-p-eq0 c = (omega arith, c.loop-p.invariant)

pub loop-p-preserved : goal.loop-p-preserved
loop-p-preserved c = let m = c.args.marks.now in let p = c.loop-p.p in λ x. free_go x m p _ (omega arith) (free_marked x m p c.if-marks-p-eq0.false) refl ∙ c.loop-p.invariant x

pub returns : goal.returns
returns c =
    let m = c.args.marks.now in
    let e : 256 ≡ c.loop-p.p = omega (arith, c.loop-p.auto.p-end c.marked_words-p.ensures.0) in
    (omega arith, λ x. ap (λ (p : ℕ). are_free x m p (256 - p)) e ∙ c.loop-p.invariant x)
