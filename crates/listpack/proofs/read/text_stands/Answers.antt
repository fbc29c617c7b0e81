-- `listpack::read::text_stands` meets its contract. Assumes nothing.
use mathlib.Core.Path.{sym, ap, ◌∙◌}
use native.Mathlib.Omega.{arith}
use Rattle.listpack.proofs.Leaves.{text_other, text_open, text_last}
use Rattle.listpack.proofs.Sound.{back_in}
use Prim.Native.Nat.{◌+◌}
use Rattle.octets.proofs.Laws.{part_is}
use Rattle.std.proofs.Common.{is_none}
use Rattle.decimal.specs.Integer.{pattern_of}
use Rattle.listpack.proofs.read.text_stands.Goals as goal

pub returns-then-head_size-at : goal.returns-then-head_size-at
returns-then-head_size-at c = sym (text_other _ _ _ (omega arith))

pub slice_bounds-is_text-end : goal.slice_bounds-is_text-end
slice_bounds-is_text-end c =
    let a = c.args in
    omega (arith, back_in a.s.now (a.at + a.l) (sym c.back_at.ensures ∙ c.if-back_at.true))

pub returns-then-back_at : goal.returns-then-back_at
returns-then-back_at c =
    let a = c.args in
    c.is_text.ensures ∙ ap (λ l. is_none (pattern_of l)) (part_is a.at a.l a.s.now) ∙ sym (text_last _ _ _ (omega arith) (sym c.back_at.ensures ∙ c.if-back_at.true))

pub returns : goal.returns
returns c = sym (text_open _ _ _ (sym c.back_at.ensures ∙ c.if-back_at.false))
