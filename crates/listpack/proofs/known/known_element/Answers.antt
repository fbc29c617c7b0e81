-- Assumes nothing.
use mathlib.Core.Path.{refl}
use native.Mathlib.Omega.{arith}
use Rattle.listpack.proofs.There.{two_there, tiny_there, text_there, short_there, long_there, integer_there, tagged_there, sized_integer, sized_text}
use Rattle.listpack.proofs.known.known_element.Goals as goal

pub known_size-size-requires : goal.known_size-size-requires
known_size-size-requires c = c.requires

pub bounds-s-at : goal.bounds-s-at
bounds-s-at c = omega (arith, two_there _ _ c.requires)

pub returns-then-b-lt128 : goal.returns-then-b-lt128
returns-then-b-lt128 c = sized_integer _ _ _ _ _ (tiny_there _ _ c.requires _ c.wide-b.ensures.0 c.if-b-lt128.true) c.known_size-size.ensures

pub returns-then-b-lt192 : goal.returns-then-b-lt192
returns-then-b-lt192 c = sized_text _ _ _ _ _ _ (text_there _ _ c.requires _ c.wide-b.ensures.0 (omega arith) (omega arith)) c.known_size-size.ensures

pub known_integer-pattern-requires : goal.known_integer-pattern-requires
known_integer-pattern-requires c = c.requires

pub returns-then-b-lt224 : goal.returns-then-b-lt224
returns-then-b-lt224 c = integer_there _ _ _ _ _ _ (short_there _ _ c.requires _ c.wide-b.ensures.0 _ refl (omega arith) (omega arith)) c.known_integer-pattern.ensures c.known_size-size.ensures

pub overflow_add-at : goal.overflow_add-at
overflow_add-at c = omega (arith, two_there _ _ c.requires)

pub bounds-s-at-then-b-lt240 : goal.bounds-s-at-then-b-lt240
bounds-s-at-then-b-lt240 c = omega (arith, two_there _ _ c.requires)

pub returns-then-b-lt240 : goal.returns-then-b-lt240
returns-then-b-lt240 c = sized_text _ _ _ _ _ _ (long_there _ _ c.requires _ c.wide-b.ensures.0 _ c.wide.ensures.0 (omega arith) (omega arith)) c.known_size-size.ensures

pub known_wide-requires : goal.known_wide-requires
known_wide-requires c = (c.requires, c.wide-b.ensures.0, omega arith)

pub returns : goal.returns
returns c = tagged_there _ _ c.requires _ c.wide-b.ensures.0 (omega arith) _ _ c.known_wide.ensures c.known_size-size.ensures
