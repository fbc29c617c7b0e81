-- Assumes nothing.
use mathlib.Core.Path.{refl}
use native.Mathlib.Omega.{arith}
use Rattle.listpack.proofs.There.{two_there, tiny_there, text_there, short_there, size_by, known_tag, last_tag}
use Rattle.listpack.proofs.known.known_size.Goals as goal

pub bounds-s-at : goal.bounds-s-at
bounds-s-at c = omega (arith, two_there _ _ c.requires)

pub returns-then-b-lt128 : goal.returns-then-b-lt128
returns-then-b-lt128 c = size_by _ _ _ (tiny_there _ _ c.requires _ c.wide-b.ensures.0 c.if-b-lt128.true)

pub returns-then-b-lt192 : goal.returns-then-b-lt192
returns-then-b-lt192 c = size_by _ _ _ (text_there _ _ c.requires _ c.wide-b.ensures.0 (omega arith) (omega arith))

pub returns-then-b-lt224 : goal.returns-then-b-lt224
returns-then-b-lt224 c = size_by _ _ _ (short_there _ _ c.requires _ c.wide-b.ensures.0 _ refl (omega arith) (omega arith))

pub long_size-requires : goal.long_size-requires
long_size-requires c = (c.requires, c.wide-b.ensures.0, omega arith, omega arith)

pub returns-then-b-lt240 : goal.returns-then-b-lt240
returns-then-b-lt240 c = c.long_size.ensures

pub returns-then-b-lt244 : goal.returns-then-b-lt244
returns-then-b-lt244 c = known_tag _ _ c.requires _ c.wide-b.ensures.0 (omega arith) (omega arith)

pub returns : goal.returns
returns c = last_tag _ _ c.requires _ c.wide-b.ensures.0 (omega arith) (omega arith)
