-- `rule` meets its contract. Assumes nothing.
use Rattle.radix_judge.proofs.Tests.{due_only, due_one}
use Rattle.radix_judge.proofs.node.rule.Goals as goal

pub returns-then-is_alone : goal.returns-then-is_alone
returns-then-is_alone c = let x = c.args in due_only x.first x.least _ x.left x.p c.is_alone.result c.is_alone.ensures c.if-is_alone.true c.is_only.result c.is_only.ensures

pub returns : goal.returns
returns c = let x = c.args in due_one x.first x.least _ x.left x.p c.is_alone.result c.is_alone.ensures c.if-is_alone.false c.is_one_of.result c.is_one_of.ensures
