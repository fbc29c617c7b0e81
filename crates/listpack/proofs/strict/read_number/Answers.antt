-- Assumes nothing.
use mathlib.Core.Path.{sym, ap, ◌∙◌}
use native.Mathlib.Omega.{arith}
use Rattle.listpack.specs.AtPlace.{leading_of, numeral}
use Rattle.listpack.proofs.Leaves.{read_none}
use Rattle.listpack.proofs.AtPlace.{tiny_is, tiny_bad, number_none, number_some}
use Rattle.listpack.proofs.strict.read_number.Goals as goal

pub returns-then-t-lt2 : goal.returns-then-t-lt2
returns-then-t-lt2 c = sym (ap leading_of (read_none _ (omega arith)))

pub returns-then-t-ne1 : goal.returns-then-t-ne1
returns-then-t-ne1 c = sym (ap leading_of (tiny_bad _ _ (omega arith) c.wide-b.ensures.0 (omega arith) (omega arith)))

pub returns-then-b-lt128 : goal.returns-then-b-lt128
returns-then-b-lt128 c = sym (ap leading_of (tiny_is _ _ (omega arith) c.wide-b.ensures.0 (omega arith) (omega arith)))

pub returns-then-p-eq0 : goal.returns-then-p-eq0
returns-then-p-eq0 c = sym (number_none _ _ (omega arith) c.wide-b.ensures.0 (omega arith) (sym c.long_integer-p.ensures ∙ c.if-p-eq0.true))

pub returns : goal.returns
returns c = ap (numeral c.long_integer-p.result) c.long_size.ensures ∙ sym (number_some _ _ (omega arith) c.wide-b.ensures.0 (omega arith) _ c.long_integer-p.ensures c.if-p-eq0.false)
