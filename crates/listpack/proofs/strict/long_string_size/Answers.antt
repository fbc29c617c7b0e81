-- Assumes nothing.
use mathlib.Core.Path.{sym, ◌∙◌}
use native.Mathlib.Omega.{arith}
use Rattle.listpack.proofs.AtPlace.{integer_none, integer_some, size_short}
use Rattle.listpack.proofs.strict.long_string_size.Goals as goal

pub returns-then-short_integer-eq0 : goal.returns-then-short_integer-eq0
returns-then-short_integer-eq0 c = sym (integer_none _ c.args.b (omega arith) c.requires.1 (omega arith) (λ h k. omega arith) (sym c.short_integer.ensures ∙ c.if-short_integer-eq0.true))

pub returns-then-b-lt224 : goal.returns-then-b-lt224
returns-then-b-lt224 c = sym (integer_some _ c.args.b (omega arith) c.requires.1 (omega arith) (λ h k. omega arith) (λ z. c.if-short_integer-eq0.false (c.short_integer.ensures ∙ z)) ∙ size_short _ (omega arith))

pub returns-then-long_integer-eq0 : goal.returns-then-long_integer-eq0
returns-then-long_integer-eq0 c = sym (integer_none _ c.args.b (omega arith) c.requires.1 (omega arith) (λ h k. omega arith) (sym c.long_integer.ensures ∙ c.if-long_integer-eq0.true))

pub returns : goal.returns
returns c = c.long_size.ensures ∙ sym (integer_some _ c.args.b (omega arith) c.requires.1 (omega arith) (λ h k. omega arith) (λ z. c.if-long_integer-eq0.false (c.long_integer.ensures ∙ z)))
