-- Assumes nothing.
use mathlib.Core.Path.{sym, ◌∙◌}
use native.Mathlib.Omega.{arith}
use Rattle.resp_read.proofs.Parts.{number_at_lem}
use Rattle.resp_read.proofs.Ids.{id_none, id_no_ms, id_ends, id_no_hyphen, id_no_seq, id_other_length, id_no_end, id_there}
use Rattle.resp_read.proofs.entry.id_at.Goals as goal

pub returns-in_err-n : goal.returns-in_err-n
returns-in_err-n c = c.from_residual.ensures ∙ sym (id_none _ _ c.in_err-n.ensures)

pub returns-in_err-ms : goal.returns-in_err-ms
returns-in_err-ms c = c.from_residual-in_err-ms.ensures ∙ sym (id_no_ms _ _ _ c.in_ok-n.ensures c.in_err-ms.ensures)

pub returns-then-s-mid : goal.returns-then-s-mid
returns-then-s-mid c = sym (id_ends _ _ _ c.in_ok-n.ensures _ c.in_ok-ms.ensures (omega arith))

pub returns-then-s-mid-ne45 : goal.returns-then-s-mid-ne45
returns-then-s-mid-ne45 c = sym (id_no_hyphen _ _ _ c.in_ok-n.ensures _ c.in_ok-ms.ensures (omega arith) (omega arith))

pub returns-in_err-seq : goal.returns-in_err-seq
returns-in_err-seq c = c.from_residual-in_err-seq.ensures ∙ sym (id_no_seq _ _ _ c.in_ok-n.ensures _ c.in_ok-ms.ensures (omega arith) (omega arith) c.in_err-seq.ensures)

pub overflow_sub-seq : goal.overflow_sub-seq
overflow_sub-seq c = omega (arith, (number_at_lem _ _ _ c.in_ok-ms.ensures).past, (number_at_lem _ _ _ c.in_ok-seq.ensures).past)

pub returns-then-seq-n : goal.returns-then-seq-n
returns-then-seq-n c = sym (id_other_length _ _ _ c.in_ok-n.ensures _ c.in_ok-ms.ensures (omega arith) (omega arith) _ c.in_ok-seq.ensures (omega arith))

pub returns-in_err-next : goal.returns-in_err-next
returns-in_err-next c =
    c.from_residual-in_err-next.ensures ∙ sym (id_no_end _ _ _ c.in_ok-n.ensures _ c.in_ok-ms.ensures (omega arith) (omega arith) _ c.in_ok-seq.ensures (omega arith) c.in_err-next.ensures)

pub returns : goal.returns
returns c = sym (id_there _ _ _ c.in_ok-n.ensures _ c.in_ok-ms.ensures (omega arith) (omega arith) _ c.in_ok-seq.ensures (omega arith) _ c.in_ok-next.ensures _ c.new.ensures)
