-- Assumes nothing.
use native.Mathlib.Omega.{arith}
use borrow.Author.Tests.{le-leb, lt-leb}
use Rattle.decimal.proofs.recognition.is_digit.Goals as goal

pub returns-then-b-low : goal.returns-then-b-low
returns-then-b-low c = let a = c.args in simp (lt-leb a.low a.b (omega arith))

pub returns : goal.returns
returns c = let a = c.args in simp (le-leb a.low a.b (omega arith))
