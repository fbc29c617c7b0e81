-- Assumes nothing.
use mathlib.Core.Path.{sym, ◌∙◌}
use native.Mathlib.Omega.{arith}
use Rattle.resp_read.proofs.Replies.{integer_none, integer_large, integer_more, integer_there}
use Rattle.resp_read.proofs.reading.read_integer.Goals as goal

pub returns-in_err-n : goal.returns-in_err-n
returns-in_err-n c = c.from_residual.ensures ∙ sym (integer_none _ c.in_err-n.ensures)

pub returns-then-n-gt6400 : goal.returns-then-n-gt6400
returns-then-n-gt6400 c = sym (integer_large _ _ c.in_ok-n.ensures (omega arith))

pub returns-then-n-s : goal.returns-then-n-s
returns-then-n-s c = sym (integer_more _ _ c.in_ok-n.ensures (omega arith) (omega arith))

pub returns : goal.returns
returns c = sym (integer_there _ _ c.in_ok-n.ensures (omega arith) (omega arith))
