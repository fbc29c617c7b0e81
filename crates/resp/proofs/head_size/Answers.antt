-- Assumes nothing.
use native.Mathlib.Omega.{arith}
use Rattle.decimal.proofs.Laws.{length_natural}
use Rattle.resp.proofs.Writing.{length_head}
use Rattle.resp.proofs.head_size.Goals as goal

pub overflow_add-result : goal.overflow_add-result
overflow_add-result c = omega (arith, c.natural_size.ensures, length_natural c.args.n)

pub returns : goal.returns
returns c = (λ b. omega (arith, c.natural_size.ensures, length_head b c.args.n), omega (arith, c.natural_size.ensures, length_natural c.args.n))
