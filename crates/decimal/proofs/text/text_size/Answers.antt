-- `text_size` meets its contract: the sign, and the digits. Assumes nothing.
use mathlib.Core.Path.{ap}
use native.Mathlib.Omega.{arith}
use lib.ListN.{length}
use Rattle.decimal.proofs.Natural.{length_natural}
use Rattle.decimal.proofs.Writing.{text_plus, text_minus}
use Rattle.decimal.proofs.text.text_size.Goals as goal

pub returns-then-p-lt-HALF : goal.returns-then-p-lt-HALF
returns-then-p-lt-HALF c = omega (arith, ap length (text_plus c.args.p (omega arith)))

pub overflow_add-result : goal.overflow_add-result
overflow_add-result c = omega (arith, length_natural c.negated.result)

pub returns : goal.returns
returns c = omega (arith, ap length (text_minus c.args.p c.negated.result (omega arith) (omega arith)))
