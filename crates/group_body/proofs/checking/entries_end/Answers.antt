-- `entries_end` meets its contract, by the law of each answer. Assumes nothing.
use mathlib.Core.Path.{sym, ◌∙◌}
use Prim.Native.Nat.{◌-◌}
use native.Mathlib.Omega.{arith}
use Rattle.group_body.proofs.Tested.{entries_short, entries_many, entries_size, entries_last}
use Rattle.group_body.proofs.checking.entries_end.Goals as goal

pub returns-then-s-at-lt2 : goal.returns-then-s-at-lt2
returns-then-s-at-lt2 c = let x = c.args in sym (entries_short x.consumers x.most x.at x.s.now (omega arith))

pub returns-then-n-gt-MOST_PENDING : goal.returns-then-n-gt-MOST_PENDING
returns-then-n-gt-MOST_PENDING c =
    let x = c.args in
    let n = c.read_le-n in
    sym (entries_many x.consumers x.most x.at x.s.now (omega arith) n.result n.ensures.0 (omega arith))

pub returns-then-s-at : goal.returns-then-s-at
returns-then-s-at c =
    let x = c.args in
    let n = c.read_le-n in
    sym (entries_size x.consumers x.most x.at x.s.now (omega arith) n.result n.ensures.0 (omega arith) c.if-s-at.true)

pub returns : goal.returns
returns c =
    let x = c.args in
    let n = c.read_le-n in
    c.entries_rise.ensures
    ∙ sym (entries_last x.consumers x.most x.at x.s.now (omega arith) n.result n.ensures.0 (omega arith) c.if-s-at.false)
