use mathlib.Core.Path.{sym, ◌∙◌}
use native.Mathlib.Omega.{arith}
use Rattle.octets.proofs.Turns.{all_next, all_stop, all_end}
use Rattle.octets.proofs.comparison.zero_by_bytes.Goals as goal

pub returns-then-s-i-ne0 : goal.returns-then-s-i-ne0
returns-then-s-i-ne0 c =
    let l = c.loop-i in
    sym (all_stop c.args.s.now l.i (omega arith) c.if-s-i-ne0.true) ∙ l.invariant

pub loop-i-preserved : goal.loop-i-preserved
loop-i-preserved c =
    let l = c.loop-i in
    sym (all_next c.args.s.now l.i (omega arith) c.if-s-i-ne0.false) ∙ l.invariant

pub returns : goal.returns
returns c =
    let l = c.loop-i in
    sym (all_end c.args.s.now l.i (omega arith)) ∙ l.invariant
