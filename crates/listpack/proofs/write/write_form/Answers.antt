-- `listpack::write::write_form` meets its contract. Assumes nothing.
use mathlib.Core.Path.{subst}
use native.Mathlib.Omega.{arith}
use Prim.Native.Nat.{ℕ}
use Rattle.listpack.specs.Element.{IsWide}
use Rattle.listpack.proofs.write.write_form.Goals as goal

pub write_wide-requires : goal.write_wide-requires
write_wide-requires c =
    let r = c.requires in
    let a = c.args in
    (subst (λ (w : ℕ). IsWide a.p a.f.tag w a.f.half) (omega arith) r.0, r.1)

pub returns-then-w-eq2 : goal.returns-then-w-eq2
returns-then-w-eq2 c = c.write_wide.ensures

pub write_wide-requires-then-w-eq3 : goal.write_wide-requires-then-w-eq3
write_wide-requires-then-w-eq3 c =
    let r = c.requires in
    let a = c.args in
    (subst (λ (w : ℕ). IsWide a.p a.f.tag w a.f.half) (omega arith) r.0, r.1)

pub returns-then-w-eq3 : goal.returns-then-w-eq3
returns-then-w-eq3 c = c.write_wide-then-w-eq3.ensures

pub write_wide-requires-then-w-eq4 : goal.write_wide-requires-then-w-eq4
write_wide-requires-then-w-eq4 c =
    let r = c.requires in
    let a = c.args in
    (subst (λ (w : ℕ). IsWide a.p a.f.tag w a.f.half) (omega arith) r.0, r.1)

pub returns-then-w-eq4 : goal.returns-then-w-eq4
returns-then-w-eq4 c = c.write_wide-then-w-eq4.ensures

pub write_wide-requires-2 : goal.write_wide-requires-2
write_wide-requires-2 c = c.requires

pub returns : goal.returns
returns c = c.write_wide-2.ensures
