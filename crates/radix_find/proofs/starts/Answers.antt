use mathlib.Core.Path.{sym, ◌∙◌}
use Prim.Native.Nat.{◌+◌, ◌-◌}
use native.Mathlib.Nat.{add-zero, sub-zero}
use native.Mathlib.Omega.{arith}
use Rattle.radix.proofs.Laws.{starts_next, starts_stop, starts_short, starts_all}
use Rattle.radix_find.proofs.starts.Goals as goal

pub loop-j-init : goal.loop-j-init
loop-j-init c = (omega arith, rw (add-zero, add-zero, sub-zero))

pub returns-then-k-i : goal.returns-then-k-i
returns-then-k-i c =
    let l = c.loop-j in
    let x = c.args in
    sym (starts_short x.s.now x.k.now x.at x.i x.n l.j (omega arith) (omega arith) (omega arith)) ∙ l.invariant.1

pub returns-then-s-at : goal.returns-then-s-at
returns-then-s-at c =
    let l = c.loop-j in
    let x = c.args in
    sym (starts_stop x.s.now x.k.now x.at x.i x.n l.j (omega arith) (omega arith) (omega arith) c.if-s-at.true) ∙ l.invariant.1

pub loop-j-preserved : goal.loop-j-preserved
loop-j-preserved c =
    let l = c.loop-j in
    let x = c.args in (
      omega arith,
      sym (starts_next x.s.now x.k.now x.at x.i x.n l.j (omega arith) (omega arith) (omega arith) c.if-s-at.false) ∙ l.invariant.1,
    )

pub returns : goal.returns
returns c =
    let l = c.loop-j in
    let x = c.args in
    sym (starts_all x.s.now _ (x.at + l.j) (x.n - l.j) (omega arith)) ∙ l.invariant.1
