use native.Mathlib.Omega.{arith}
use Rattle.decimal.proofs.Natural.{length_four, length_natural}
use Rattle.decimal.proofs.text.natural_size.Goals as goal

pub overflow_add-size : goal.overflow_add-size
overflow_add-size c = omega (arith, length_natural c.args.n)

pub loop-x-preserved : goal.loop-x-preserved
loop-x-preserved c = let x = c.loop-x.x in omega (arith, length_four x (omega arith) (omega arith))

pub overflow_add-result : goal.overflow_add-result
overflow_add-result c = omega (arith, length_natural c.args.n, c.short_size.ensures.0)

pub returns : goal.returns
returns c = omega (arith, c.short_size.ensures.0)
