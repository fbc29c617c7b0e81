use mathlib.Core.Path.{◌≡◌, ◌∙◌}
use native.Mathlib.Nat.{add-zero, sub-zero, zero-add}
use native.Mathlib.Omega.{arith}
use Rattle.radix.proofs.RowTurns.{share_short, share_end, share_stop, share_next}
use Rattle.radix.proofs.construction.shared.Goals as goal

pub loop-j-init : goal.loop-j-init
loop-j-init c = (omega arith, rw (zero-add, add-zero c.args.p, add-zero c.args.q, sub-zero c.args.m, sub-zero c.args.k))

pub returns-then-k-j : goal.returns-then-k-j
returns-then-k-j c = let l = c.loop-j in let x = c.args in share_short x.key.now x.p x.m x.q x.k l.j (omega arith) (omega arith) (omega arith) ∙ l.invariant.1

pub returns-then-key-p : goal.returns-then-key-p
returns-then-key-p c = let l = c.loop-j in let x = c.args in share_stop x.key.now x.p x.m x.q x.k l.j (omega arith) (omega arith) (omega arith) (omega arith) c.if-key-p.true ∙ l.invariant.1

pub loop-j-preserved : goal.loop-j-preserved
loop-j-preserved c =
    let l = c.loop-j in
    let x = c.args in
    (omega arith, share_next x.key.now x.p x.m x.q x.k l.j (omega arith) (omega arith) (omega arith) (omega arith) c.if-key-p.false ∙ l.invariant.1)

pub returns : goal.returns
returns c = let l = c.loop-j in let x = c.args in let e : x.m ≡ l.j = omega arith in e ∙ share_end x.key.now x.p x.m x.q x.k l.j (omega arith) (omega arith) (omega arith) ∙ l.invariant.1
