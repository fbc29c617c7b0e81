-- `counts` meets its contract. Assumes nothing.
use native.Mathlib.Omega.{arith}
use Rattle.report.proofs.Lines.{then_lines}
use Rattle.report.proofs.text.counts.Goals as goal

pub returns : goal.returns
returns c = then_lines (omega arith) (then_lines (omega arith) (then_lines (omega arith) c.number-at.ensures c.number-at-2.ensures) c.number-at-3.ensures) c.number.ensures
