-- Assumes nothing.
use mathlib.Core.Path.{refl, sym, ◌∙◌}
use native.Mathlib.Omega.{arith}
use Rattle.listpack.proofs.AtPlace.{short_past, short_low, short_back, short_is}
use Rattle.listpack.proofs.strict.short_integer.Goals as goal

pub returns-then-t-lt3 : goal.returns-then-t-lt3
returns-then-t-lt3 c = sym (short_past c.args.t.now c.args.b (omega arith) c.requires.1 _ refl (omega arith) (omega arith) (omega arith))

pub returns-then-v-lt128 : goal.returns-then-v-lt128
returns-then-v-lt128 c = sym (short_low c.args.t.now c.args.b (omega arith) c.requires.1 _ c.wide.ensures.0 (omega arith) (omega arith) (omega arith))

pub returns-then-t-ne2 : goal.returns-then-t-ne2
returns-then-t-ne2 c = sym (short_back c.args.t.now c.args.b (omega arith) c.requires.1 _ c.wide.ensures.0 (omega arith) (omega arith) (omega arith) (omega arith))

pub returns : goal.returns
returns c = c.extend.ensures ∙ sym (short_is c.args.t.now c.args.b (omega arith) c.requires.1 _ c.wide.ensures.0 (omega arith) (omega arith) (omega arith) (omega arith) (omega arith) (omega arith))
