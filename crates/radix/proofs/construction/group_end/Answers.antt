use mathlib.Core.Path.{◌≡◌, refl, ◌∙◌}
use Prim.Native.Nat.{◌+◌, ◌*◌, ◌-◌}
use native.Mathlib.Omega.{arith}
use lib.ListN.{get_or}
use Rattle.radix.proofs.RowTurns.{alike_stop, alike_next, alike_end}
use Rattle.radix.proofs.construction.group_end.Goals as goal

pub loop-i-init : goal.loop-i-init
loop-i-init c = refl

pub returns-then-key-i : goal.returns-then-key-i
returns-then-key-i c = let l = c.loop-i in let x = c.args in alike_stop x.key.now x.d (get_or x.key.now (16 * x.a + x.d) 0) l.i (x.b - l.i) (omega arith) c.if-key-i.true ∙ l.invariant

pub loop-i-preserved : goal.loop-i-preserved
loop-i-preserved c =
    let l = c.loop-i in
    let x = c.args in
    let e : x.b - (l.i + 1) ≡ x.b - l.i - 1 = omega arith in
    rw e (alike_next x.key.now x.d (get_or x.key.now (16 * x.a + x.d) 0) l.i (x.b - l.i) (omega arith) c.if-key-i.false) ∙ l.invariant

pub returns : goal.returns
returns c = let l = c.loop-i in let x = c.args in let e : x.b ≡ l.i = omega arith in e ∙ alike_end x.key.now x.d (get_or x.key.now (16 * x.a + x.d) 0) l.i (x.b - l.i) (omega arith) ∙ l.invariant
