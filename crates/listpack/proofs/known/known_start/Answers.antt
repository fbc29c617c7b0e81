-- Assumes nothing.
use mathlib.Core.Path.{refl, sym}
use native.Mathlib.Omega.{arith}
use Rattle.listpack.proofs.There.{two_there, tiny_there, text_there, short_there, long_there, tagged_there, start_by}
use Rattle.listpack.proofs.known.known_start.Goals as goal

pub bounds-s-at : goal.bounds-s-at
bounds-s-at c = omega (arith, two_there _ _ c.requires)

pub returns-then-b-lt128 : goal.returns-then-b-lt128
returns-then-b-lt128 c = start_by _ _ _ (tiny_there _ _ c.requires _ c.wide-b.ensures.0 c.if-b-lt128.true)

pub returns-then-b-lt192 : goal.returns-then-b-lt192
returns-then-b-lt192 c = start_by _ _ _ (text_there _ _ c.requires _ c.wide-b.ensures.0 (omega arith) (omega arith))

pub returns-then-b-lt224 : goal.returns-then-b-lt224
returns-then-b-lt224 c = start_by _ _ _ (short_there _ _ c.requires _ c.wide-b.ensures.0 _ refl (omega arith) (omega arith))

pub returns-then-b-lt240 : goal.returns-then-b-lt240
returns-then-b-lt240 c = start_by _ _ _ (long_there _ _ c.requires _ c.wide-b.ensures.0 _ refl (omega arith) (omega arith))

pub returns : goal.returns
returns c = start_by _ _ _ (sym (tagged_there _ _ c.requires _ c.wide-b.ensures.0 (omega arith) _ _ refl refl))
