use mathlib.Core.Path.{refl, sym, ◌∙◌}
use Prim.Native.Nat.{◌+◌}
use Rattle.std.proofs.Math.Nat.{sub-zero}
use native.Mathlib.Omega.{arith}
use Rattle.resp_read.proofs.Parts.{IsBulk, bulk_at_lem}
use Rattle.resp_read.proofs.Sizes.{no_field, no_value, pairs_end, pairs_none, pairs_turn}
use Rattle.resp_read.proofs.entry.pairs.Goals as goal
use Rattle.resp_read.proofs.entry.pairs.Goals.{After-head_size, After-head_size-in-loop}

-- the field and the value that are passed
field : (c : After-head_size) → IsBulk c.args.s.now c.loop.next c.in_ok-a.a (c.loop.next + c.head_size.result)
field c = bulk_at_lem _ _ _ c.in_ok-a.ensures _ (c.head_size.ensures.0 36)

value : (c : After-head_size-in-loop) → let mid = c.loop.next + c.head_size.result + c.in_ok-a.a + 2 in IsBulk c.args.s.now mid c.in_ok-b.b (mid + c.head_size-in-loop.result)
value c = bulk_at_lem _ _ _ c.in_ok-b.ensures _ (c.head_size-in-loop.ensures.0 36)

pub loop-init : goal.loop-init
loop-init c = (rw sub-zero refl, omega arith, omega arith, omega arith)

pub returns-in_err-a : goal.returns-in_err-a
returns-in_err-a c = c.from_residual.ensures ∙ sym (c.loop.invariant.0 ∙ pairs_none _ _ _ _ _ (no_field _ _ _ (omega arith) c.in_err-a.ensures))

pub overflow_add-from : goal.overflow_add-from
overflow_add-from c = omega (arith, field (goal.at.overflow_add-from c).After-head_size)

pub overflow_add-mid : goal.overflow_add-mid
overflow_add-mid c = omega (arith, field (goal.at.overflow_add-mid c).After-head_size)

pub overflow_add-mid-in-loop : goal.overflow_add-mid-in-loop
overflow_add-mid-in-loop c = omega (arith, field (goal.at.overflow_add-mid-in-loop c).After-head_size)

pub returns-in_err-b : goal.returns-in_err-b
returns-in_err-b c =
    c.from_residual-in_err-b.ensures ∙ sym (c.loop.invariant.0 ∙ pairs_none _ _ _ _ _ (no_value _ _ _ (omega arith) (field (goal.at.returns-in_err-b c).After-head_size) c.in_err-b.ensures))

pub overflow_add-start : goal.overflow_add-start
overflow_add-start c = omega (arith, value (goal.at.overflow_add-start c).After-head_size-in-loop)

pub string_size-requires : goal.string_size-requires
string_size-requires c = (omega (arith, field (goal.at.string_size-requires c).After-head_size), (field (goal.at.string_size-requires c).After-head_size).short)

pub string_size-requires-in-loop : goal.string_size-requires-in-loop
string_size-requires-in-loop c = (omega (arith, value (goal.at.string_size-requires-in-loop c).After-head_size-in-loop), (value (goal.at.string_size-requires-in-loop c).After-head_size-in-loop).short)

pub overflow_add-alone : goal.overflow_add-alone
overflow_add-alone c = omega (arith, c.string_size.ensures.1, c.string_size-in-loop.ensures.1)

pub overflow_add-alone-in-loop : goal.overflow_add-alone-in-loop
overflow_add-alone-in-loop c = omega (arith, c.string_size.ensures.1, c.string_size-in-loop.ensures.1, c.loop.invariant.2)

pub overflow_add-slip : goal.overflow_add-slip
overflow_add-slip c = omega (arith, (field (goal.at.overflow_add-slip c).After-head_size).short)

pub overflow_add-slip-in-loop : goal.overflow_add-slip-in-loop
overflow_add-slip-in-loop c = omega (arith, (field (goal.at.overflow_add-slip-in-loop c).After-head_size).short, (value (goal.at.overflow_add-slip-in-loop c).After-head_size-in-loop).short)

pub overflow_add-slip-in-loop-2 : goal.overflow_add-slip-in-loop-2
overflow_add-slip-in-loop-2 c = omega (arith, (field (goal.at.overflow_add-slip-in-loop-2 c).After-head_size).short, (value (goal.at.overflow_add-slip-in-loop-2 c).After-head_size-in-loop).short, c.loop.invariant.3)

pub overflow_add-next : goal.overflow_add-next
overflow_add-next c = omega (arith, value (goal.at.overflow_add-next c).After-head_size-in-loop)

pub overflow_add-next-in-loop : goal.overflow_add-next-in-loop
overflow_add-next-in-loop c = omega (arith, value (goal.at.overflow_add-next-in-loop c).After-head_size-in-loop)

pub loop-preserved : goal.loop-preserved
loop-preserved c = (
  c.loop.invariant.0 ∙ pairs_turn _ _ _ _ _ (omega arith) (field (goal.at.loop-preserved c).After-head_size) (value (goal.at.loop-preserved c).After-head_size-in-loop) _ _ _ (omega arith) c.string_size.ensures.0 c.string_size-in-loop.ensures.0,
  (value (goal.at.loop-preserved c).After-head_size-in-loop).within,
  omega (arith, c.string_size.ensures.1, c.string_size-in-loop.ensures.1, c.loop.invariant.2),
  omega (arith, (field (goal.at.loop-preserved c).After-head_size).short, (value (goal.at.loop-preserved c).After-head_size-in-loop).short, c.loop.invariant.3),
)

pub returns : goal.returns
returns c = sym (c.loop.invariant.0 ∙ pairs_end _ _ _ _ _ (omega arith) c.loop.invariant.1)
