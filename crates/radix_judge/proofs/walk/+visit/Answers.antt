-- Assumes nothing.
use mathlib.Core.Bool.{true}
use mathlib.Core.Path.{refl, sym, ◌∙◌, subst}
use Prim.Native.Nat.{ℕ, ◌+◌, ◌-◌, ◌≤◌}
use native.Mathlib.Omega.{arith}
use lib.ListN.{length-set}
use Rattle.radix_bytes.specs.Bytes.{pool_in}
use Rattle.std.proofs.Common.{Some}
use Rattle.radix_judge.specs.Visit.{Few}
use Rattle.radix_judge.proofs.Walks.{Fit, fit_of}
use Rattle.radix_judge.proofs.Steps.{visit_none, visit_end, visit_out, visit_twice, visit_unfit, visit_stop, visit_more}
use Rattle.radix_judge.proofs.walk.+visit.Goals as goal
use Rattle.radix_judge.proofs.walk.+visit.Goals.{Else-not-fits}

fit : (t : ℕ) (c : Else-not-fits t) → let x = c.args in let l = c.loop-at in Fit l.first l.least (l.rest - 1) (pool_in x.s.now) (l.at - 1) x.d l.keys
fit t c = fit_of _ _ _ _ _ _ _ (sym c.fits.ensures ∙ c.if-not-fits.false)

pub returns-then-rest-eq0 : goal.returns-then-rest-eq0
returns-then-rest-eq0 t c =
    let x = c.args in
    let l = c.loop-at in
    (visit_end (pool_in x.s.now) l.first l.least l.rest l.at x.d l.keys l.marks c.if-rest-eq0.true c.loop-at-test.true ∙ l.invariant.3, tt)

pub returns-then-at-gt256 : goal.returns-then-at-gt256
returns-then-at-gt256 t c =
    let x = c.args in
    let l = c.loop-at in
    (visit_out (pool_in x.s.now) l.first l.least l.rest l.at x.d l.keys l.marks c.if-at-gt256.true ∙ l.invariant.3, tt)

pub returns-then-marks-p-ne0 : goal.returns-then-marks-p-ne0
returns-then-marks-p-ne0 t c =
    let x = c.args in
    let l = c.loop-at in
    (visit_twice (pool_in x.s.now) l.first l.least l.rest l.at x.d l.keys l.marks (omega (arith, c.loop-at-test.true)) (omega arith) c.if-marks-p-ne0.true ∙ l.invariant.3, tt)

pub returns-then-not-fits : goal.returns-then-not-fits
returns-then-not-fits t c =
    let x = c.args in
    let l = c.loop-at in
    (visit_unfit (pool_in x.s.now) l.first l.least l.rest l.at x.d l.keys l.marks (omega (arith, c.loop-at-test.true)) (omega arith) (omega arith) c.if-marks-p-ne0.false c.fits.result c.fits.ensures c.if-not-fits.true ∙ l.invariant.3, tt)

pub visit-requires : goal.visit-requires
visit-requires t c =
    let f = fit t (goal.at.visit-requires t c).Else-not-fits in
    (omega arith, (c.requires.0, (omega (arith, c.label_len.ensures.0, f.short), (omega (arith, c.key_at-keys.ensures.0, f.few), simp length-set (c.loop-at.invariant.2 ∙ c.requires.1.1.1)))))

pub returns-in_err-keys : goal.returns-in_err-keys
returns-in_err-keys t c =
    let x = c.args in
    let l = c.loop-at in
    rw c.from_residual.ensures (visit_stop (pool_in x.s.now) l.first l.least l.rest l.at x.d l.keys l.marks (omega (arith, c.loop-at-test.true)) (omega arith) (omega arith) c.if-marks-p-ne0.false c.fits.result c.fits.ensures c.if-not-fits.false c.child_at-below.result c.label_len.result c.key_at-keys.result c.visit.result _ c.child_at-below.ensures.0 c.label_len.ensures.0 c.key_at-keys.ensures.0 c.visit.ensures.0 c.in_err-keys.was ∙ l.invariant.3, tt)

pub loop-at-preserved-then-below-ne0 : goal.loop-at-preserved-then-below-ne0
loop-at-preserved-then-below-ne0 t c =
    let x = c.args in
    let few : Few (Some c.in_ok-keys.keys) = subst Few c.in_ok-keys.was c.visit.ensures.1 in
    let l = c.loop-at in (
      omega arith,
      few,
      c.visit.auto.marks ∙ simp length-set c.loop-at.invariant.2,
      visit_more (pool_in x.s.now) l.first l.least l.rest l.at x.d l.keys l.marks (omega (arith, c.loop-at-test.true)) (omega arith) (omega arith) c.if-marks-p-ne0.false c.fits.result c.fits.ensures c.if-not-fits.false c.child_at-below.result c.label_len.result c.key_at-keys.result c.visit.result _ c.child_at-below.ensures.0 c.label_len.ensures.0 c.key_at-keys.ensures.0 c.visit.ensures.0 c.in_ok-keys.keys c.in_ok-keys.was c.next_at-at.result c.first_byte-least.result c.next_at-at.ensures.0 c.first_byte-least.ensures.0 ∙ l.invariant.3,
    )

pub loop-at-preserved : goal.loop-at-preserved
loop-at-preserved t c =
    let x = c.args in
    let l = c.loop-at in
    let few : l.keys + c.key_at-keys.result ≤ 64 = omega (arith, c.key_at-keys.ensures.0, (fit t (goal.at.loop-at-preserved t c).Else-not-fits).few) in (
      omega arith,
      few,
      simp length-set l.invariant.2,
      visit_more (pool_in x.s.now) l.first l.least l.rest l.at x.d l.keys l.marks (omega (arith, c.loop-at-test.true)) (omega arith) (omega arith) c.if-marks-p-ne0.false c.fits.result c.fits.ensures c.if-not-fits.false c.child_at-below.result _ c.key_at-keys.result (Some (l.keys + c.key_at-keys.result)) _ c.child_at-below.ensures.0 refl c.key_at-keys.ensures.0 (visit_none (pool_in x.s.now) true 0 (l.rest - 1) c.child_at-below.result _ (l.keys + c.key_at-keys.result) _ c.if-below-ne0.false) _ refl c.next_at-at.result c.first_byte-least.result c.next_at-at.ensures.0 c.first_byte-least.ensures.0 ∙ l.invariant.3,
    )

pub returns : goal.returns
returns t c =
    let x = c.args in
    let l = c.loop-at in
    (visit_none (pool_in x.s.now) l.first l.least l.rest l.at x.d l.keys l.marks c.loop-at-test.false ∙ l.invariant.3, l.invariant.1)
