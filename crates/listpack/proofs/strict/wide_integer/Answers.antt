-- Assumes nothing.
use mathlib.Core.Path.{sym, ◌∙◌}
use native.Mathlib.Omega.{arith}
use Rattle.listpack.proofs.AtPlace.{wide_past, wide_stands, wide_other}
use Rattle.listpack.proofs.strict.wide_integer.Goals as goal

pub returns-then-t-w : goal.returns-then-t-w
returns-then-t-w c = sym (wide_past _ _ (omega arith) (omega arith))

pub returns-then-integer_stands : goal.returns-then-integer_stands
returns-then-integer_stands c = sym (wide_stands _ _ (omega arith) _ c.wide_value-v.ensures (omega arith) (sym c.integer_stands.ensures ∙ c.if-integer_stands.true))

pub returns : goal.returns
returns c = sym (wide_other _ _ (omega arith) _ c.wide_value-v.ensures (omega arith) (sym c.integer_stands.ensures ∙ c.if-integer_stands.false))
