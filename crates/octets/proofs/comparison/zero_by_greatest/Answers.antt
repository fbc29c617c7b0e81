use mathlib.Core.Path.{sym, ap, ◌∙◌}
use native.Mathlib.Omega.{arith}
use lib.Dec.{eqb}
use lib.ListN.{get_or}
use Prim.Native.Nat.{ℕ}
use Rattle.octets.specs.Pick.{both}
use Rattle.octets.proofs.Tested.{both_end, max_zero}
use Rattle.octets.proofs.Turns.{all_greatest, all_end}
use Rattle.octets.proofs.comparison.zero_by_greatest.Goals as goal

pub loop-i-preserved : goal.loop-i-preserved
loop-i-preserved c =
    let l = c.loop-i in
    sym (all_greatest c.args.s.now l.i l.greatest c.max-greatest.result (omega arith) (ap (λ (n : ℕ). eqb n 0) c.max-greatest.ensures ∙ max_zero l.greatest (get_or c.args.s.now l.i 0))) ∙ l.invariant

pub returns : goal.returns
returns c =
    let l = c.loop-i in
    sym (ap (both (eqb l.greatest 0)) (all_end c.args.s.now l.i (omega arith)) ∙ both_end _) ∙ l.invariant
