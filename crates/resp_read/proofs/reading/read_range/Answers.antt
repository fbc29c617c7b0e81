-- Assumes nothing.
use mathlib.Core.Path.{sym, ◌∙◌}
use native.Mathlib.Omega.{arith}
use Rattle.resp_read.proofs.Parts.{head_at_lem}
use Rattle.resp_read.proofs.Replies.{range_no_head, range_no_entries, range_more, range_there}
use Rattle.resp_read.proofs.reading.read_range.Goals as goal

pub returns-in_err-n : goal.returns-in_err-n
returns-in_err-n c = c.from_residual.ensures ∙ sym (range_no_head _ c.in_err-n.ensures)

pub entries-requires : goal.entries-requires
entries-requires c = (head_at_lem _ _ _ _ c.in_ok-n.ensures).within

pub returns-in_err-end : goal.returns-in_err-end
returns-in_err-end c = c.from_residual-in_err-end.ensures ∙ sym (range_no_entries _ _ c.in_ok-n.ensures c.in_err-end.ensures)

pub returns-then-end-s : goal.returns-then-end-s
returns-then-end-s c = sym (range_more _ _ c.in_ok-n.ensures _ c.in_ok-end.ensures (omega arith))

pub returns : goal.returns
returns c = sym (range_there _ _ c.in_ok-n.ensures _ c.in_ok-end.ensures (omega arith))
