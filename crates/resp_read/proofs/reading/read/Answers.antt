-- Assumes nothing.
use mathlib.Core.Path.{sym, ◌∙◌}
use native.Mathlib.Omega.{arith}
use Rattle.resp_read.proofs.Replies.{reply_nothing, reply_range, reply_integer, reply_error}
use Rattle.resp_read.proofs.reading.read.Goals as goal

pub returns-then-s-eq0 : goal.returns-then-s-eq0
returns-then-s-eq0 c = sym (reply_nothing c.args.s.now (omega arith))

pub returns-then-s-eq-ARRAY : goal.returns-then-s-eq-ARRAY
returns-then-s-eq-ARRAY c = c.read_range.ensures ∙ sym (reply_range c.args.s.now (omega arith))

pub returns-then-s-eq-INTEGER : goal.returns-then-s-eq-INTEGER
returns-then-s-eq-INTEGER c = c.read_integer.ensures ∙ sym (reply_integer c.args.s.now (omega arith))

pub returns : goal.returns
returns c = c.read_error.ensures ∙ sym (reply_error c.args.s.now (omega arith) (omega arith))
