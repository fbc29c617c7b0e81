-- `zero_from` meets its contract: field by field. Assumes nothing.
use Rattle.radix_judge.proofs.Frees.{zero_1, zero_2, zero_3, zero_4, zero_5, zero_6}
use Rattle.radix_judge.proofs.free.zero_from.Goals as goal

pub returns-then-not-all_zero_from : goal.returns-then-not-all_zero_from
returns-then-not-all_zero_from c = let x = c.args in zero_1 x.s.now x.p c.requires.1 _ c.all_zero_from.ensures (c.if-not-all_zero_from.true)

pub returns-then-not-all_zero_from-2 : goal.returns-then-not-all_zero_from-2
returns-then-not-all_zero_from-2 c = let x = c.args in zero_2 x.s.now x.p c.requires.1 _ c.all_zero_from.ensures (c.if-not-all_zero_from.false) _ c.all_zero_from-2.ensures (c.if-not-all_zero_from-2.true)

pub returns-then-not-all_zero_from-3 : goal.returns-then-not-all_zero_from-3
returns-then-not-all_zero_from-3 c = let x = c.args in zero_3 x.s.now x.p c.requires.1 _ c.all_zero_from.ensures (c.if-not-all_zero_from.false) _ c.all_zero_from-2.ensures (c.if-not-all_zero_from-2.false) _ c.all_zero_from-3.ensures (c.if-not-all_zero_from-3.true)

pub returns-then-not-all_zero_from-4 : goal.returns-then-not-all_zero_from-4
returns-then-not-all_zero_from-4 c = let x = c.args in zero_4 x.s.now x.p c.requires.1 _ c.all_zero_from.ensures (c.if-not-all_zero_from.false) _ c.all_zero_from-2.ensures (c.if-not-all_zero_from-2.false) _ c.all_zero_from-3.ensures (c.if-not-all_zero_from-3.false) _ c.all_zero_from-4.ensures (c.if-not-all_zero_from-4.true)

pub returns-then-not-all_zero_from-5 : goal.returns-then-not-all_zero_from-5
returns-then-not-all_zero_from-5 c = let x = c.args in zero_5 x.s.now x.p c.requires.1 _ c.all_zero_from.ensures (c.if-not-all_zero_from.false) _ c.all_zero_from-2.ensures (c.if-not-all_zero_from-2.false) _ c.all_zero_from-3.ensures (c.if-not-all_zero_from-3.false) _ c.all_zero_from-4.ensures (c.if-not-all_zero_from-4.false) _ c.all_zero_from-5.ensures (c.if-not-all_zero_from-5.true)

pub returns : goal.returns
returns c = let x = c.args in zero_6 x.s.now x.p c.requires.1 _ c.all_zero_from.ensures (c.if-not-all_zero_from.false) _ c.all_zero_from-2.ensures (c.if-not-all_zero_from-2.false) _ c.all_zero_from-3.ensures (c.if-not-all_zero_from-3.false) _ c.all_zero_from-4.ensures (c.if-not-all_zero_from-4.false) _ c.all_zero_from-5.ensures (c.if-not-all_zero_from-5.false) _ c.all_zero_from-6.ensures
