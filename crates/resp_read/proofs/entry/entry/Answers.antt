-- Assumes nothing.
use mathlib.Core.Path.{sym, ◌∙◌}
use native.Mathlib.Omega.{arith}
use Rattle.resp_read.proofs.Sizes.{opening_at_lem, entry_none, entry_no_pairs, entry_large, entry_there}
use Rattle.resp_read.proofs.entry.entry.Goals as goal

pub returns-in_err-o : goal.returns-in_err-o
returns-in_err-o c = c.from_residual.ensures ∙ sym (entry_none _ _ c.in_err-o.ensures)

pub pairs-requires : goal.pairs-requires
pairs-requires c = let k = opening_at_lem _ _ _ c.in_ok-o.ensures in (k.within, k.few)

pub returns-in_err-p : goal.returns-in_err-p
returns-in_err-p c = c.from_residual-in_err-p.ensures ∙ sym (entry_no_pairs _ _ _ c.in_ok-o.ensures c.in_err-p.ensures)

pub returns-then-p-gt4095 : goal.returns-then-p-gt4095
returns-then-p-gt4095 c = sym (entry_large _ _ _ c.in_ok-o.ensures _ c.in_ok-p.ensures (record { byte = λ j. (c.type_inv.s j).fits }) (omega arith))

pub returns : goal.returns
returns c = sym (entry_there _ _ _ c.in_ok-o.ensures _ c.in_ok-p.ensures (record { byte = λ j. (c.type_inv.s j).fits }) (omega arith))
