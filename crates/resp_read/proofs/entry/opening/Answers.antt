-- Assumes nothing.
use mathlib.Core.Path.{sym, ◌∙◌}
use native.Mathlib.Omega.{arith}
use Rattle.resp_read.proofs.Openings.{opening_none, opening_other, opening_no_id, opening_no_count, opening_no_pairs, opening_there}
use Rattle.resp_read.proofs.entry.opening.Goals as goal

pub returns-in_err-two : goal.returns-in_err-two
returns-in_err-two c = c.from_residual.ensures ∙ sym (opening_none _ _ c.in_err-two.ensures)

pub returns-then-two-ne2 : goal.returns-then-two-ne2
returns-then-two-ne2 c = sym (opening_other _ _ _ c.in_ok-two.ensures (omega arith))

pub returns-in_err-i : goal.returns-in_err-i
returns-in_err-i c = c.from_residual-in_err-i.ensures ∙ sym (opening_no_id _ _ _ c.in_ok-two.ensures (omega arith) c.in_err-i.ensures)

pub returns-in_err-n : goal.returns-in_err-n
returns-in_err-n c = c.from_residual-in_err-n.ensures ∙ sym (opening_no_count _ _ _ c.in_ok-two.ensures (omega arith) _ c.in_ok-i.ensures c.in_err-n.ensures)

pub returns-in_err-pairs : goal.returns-in_err-pairs
returns-in_err-pairs c = c.from_residual-in_err-pairs.ensures ∙ sym (opening_no_pairs _ _ _ c.in_ok-two.ensures (omega arith) _ c.in_ok-i.ensures _ c.in_ok-n.ensures c.in_err-pairs.ensures)

pub returns : goal.returns
returns c = sym (opening_there _ _ _ c.in_ok-two.ensures (omega arith) _ c.in_ok-i.ensures _ c.in_ok-n.ensures _ c.in_ok-pairs.ensures)
