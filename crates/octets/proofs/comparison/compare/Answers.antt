use Rattle.std.proofs.Common.{◌∙◌, arith}
use Rattle.octets.proofs.Slices.{order_is, differ}
use Rattle.octets.proofs.comparison.compare.Goals as goal

pub returns-then-a-b : goal.returns-then-a-b
returns-then-a-b c = c.cmp.ensures ∙ differ c.args.a.now c.args.b.now (omega arith) (omega arith) c.if-a-b.true

pub returns : goal.returns
returns c = c.cmp-2.ensures ∙ order_is c.args.a.now c.args.b.now
