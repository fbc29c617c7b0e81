-- Assumes nothing.
use mathlib.Core.Path.{refl, ◌∙◌}
use native.Mathlib.Omega.{arith}
use Rattle.listpack.proofs.There.{two_there, tiny_there, text_there, short_there, long_there, pattern_by_lem}
use Rattle.listpack.proofs.known.known_integer.Goals as goal

pub bounds-s-at : goal.bounds-s-at
bounds-s-at c = omega (arith, two_there _ _ c.requires)

pub returns-then-b-lt128 : goal.returns-then-b-lt128
returns-then-b-lt128 c = pattern_by_lem _ _ _ (tiny_there _ _ c.requires _ c.wide-b.ensures.0 c.if-b-lt128.true)

pub returns-then-b-lt192 : goal.returns-then-b-lt192
returns-then-b-lt192 c = pattern_by_lem _ _ _ (text_there _ _ c.requires _ c.wide-b.ensures.0 (omega arith) (omega arith))

pub overflow_add-at : goal.overflow_add-at
overflow_add-at c = omega (arith, two_there _ _ c.requires)

pub bounds-s-at-then-b-lt224 : goal.bounds-s-at-then-b-lt224
bounds-s-at-then-b-lt224 c = omega (arith, two_there _ _ c.requires)

pub extend-requires : goal.extend-requires
extend-requires c = (omega arith, omega arith)

pub returns-then-b-lt224 : goal.returns-then-b-lt224
returns-then-b-lt224 c = c.extend.ensures ∙ pattern_by_lem _ _ _ (short_there _ _ c.requires _ c.wide-b.ensures.0 _ c.wide.ensures.0 (omega arith) (omega arith))

pub returns-then-b-lt240 : goal.returns-then-b-lt240
returns-then-b-lt240 c = pattern_by_lem _ _ _ (long_there _ _ c.requires _ c.wide-b.ensures.0 _ refl (omega arith) (omega arith))

pub known_wide-requires : goal.known_wide-requires
known_wide-requires c = (c.requires, c.wide-b.ensures.0, omega arith)

pub returns : goal.returns
returns c = c.known_wide.ensures
