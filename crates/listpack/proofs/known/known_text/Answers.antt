-- Assumes nothing.
use mathlib.Core.Path.{refl, sym}
use Prim.Native.Nat.{◌-◌}
use native.Mathlib.Omega.{arith}
use Rattle.listpack.proofs.There.{two_there, tiny_there, text_there, short_there, long_there, tagged_there, text_by}
use Rattle.listpack.proofs.known.known_text.Goals as goal
use Rattle.std.proofs.Common.{Some}
use Rattle.listpack.specs.declared.Element.TheVariants.{Text}

pub bounds-s-at : goal.bounds-s-at
bounds-s-at c = omega (arith, two_there _ _ c.requires)

pub returns-then-b-lt128 : goal.returns-then-b-lt128
returns-then-b-lt128 c = text_by _ _ _ (tiny_there _ _ c.requires _ c.wide-b.ensures.0 c.if-b-lt128.true)

pub returns-then-b-lt192 : goal.returns-then-b-lt192
returns-then-b-lt192 c =
    let x = c.args in
    omega (arith, text_by x.s.now x.at (Some (Text 1 (c.wide-b.result - 128) (c.wide-b.result - 126))) (text_there x.s.now x.at c.requires _ c.wide-b.ensures.0 (omega arith) (omega arith)))

pub returns-then-b-lt224 : goal.returns-then-b-lt224
returns-then-b-lt224 c = text_by _ _ _ (short_there _ _ c.requires _ c.wide-b.ensures.0 _ refl (omega arith) (omega arith))

pub overflow_add-at : goal.overflow_add-at
overflow_add-at c = omega (arith, two_there _ _ c.requires)

pub bounds-s-at-then-b-lt240 : goal.bounds-s-at-then-b-lt240
bounds-s-at-then-b-lt240 c = omega (arith, two_there _ _ c.requires)

pub returns-then-b-lt240 : goal.returns-then-b-lt240
returns-then-b-lt240 c = text_by _ _ _ (long_there _ _ c.requires _ c.wide-b.ensures.0 _ c.wide.ensures.0 (omega arith) (omega arith))

pub returns : goal.returns
returns c = text_by _ _ _ (sym (tagged_there _ _ c.requires _ c.wide-b.ensures.0 (omega arith) _ _ refl refl))
