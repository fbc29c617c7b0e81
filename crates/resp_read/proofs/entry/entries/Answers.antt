use mathlib.Core.Path.{sym, ◌∙◌}
use native.Mathlib.Omega.{arith}
use Rattle.resp_read.proofs.Sizes.{entry_at_lem}
use Rattle.resp_read.proofs.Replies.{entries_end_lem, entries_none, entries_fall, entries_turn}
use Rattle.resp_read.proofs.entry.entries.Goals as goal

pub returns-in_err-e : goal.returns-in_err-e
returns-in_err-e c = c.from_residual.ensures ∙ sym (c.loop.invariant.0 ∙ entries_none _ _ _ _ (omega arith) c.in_err-e.ensures)

pub returns-then-not-is_below : goal.returns-then-not-is_below
returns-then-not-is_below c = sym (c.loop.invariant.0 ∙ entries_fall _ _ _ _ (omega arith) _ c.in_ok-e.ensures (sym c.is_below.ensures ∙ c.if-not-is_below.true))

pub loop-preserved : goal.loop-preserved
loop-preserved c = (
  c.loop.invariant.0 ∙ entries_turn _ _ _ _ (omega arith) _ c.in_ok-e.ensures _ (omega arith) (sym c.is_below.ensures ∙ c.if-not-is_below.false),
  (entry_at_lem _ _ _ c.in_ok-e.ensures).within,
)

pub returns : goal.returns
returns c = sym (c.loop.invariant.0 ∙ entries_end_lem _ _ _ _ (omega arith) c.loop.invariant.1)
