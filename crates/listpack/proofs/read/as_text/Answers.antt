-- `listpack::read::as_text` meets its contract. Assumes nothing.
use mathlib.Core.Path.{sym, ap, ◌∙◌}
use native.Mathlib.Omega.{arith}
use Rattle.listpack.proofs.Leaves.{text_made, text_bad}
use Rattle.listpack.proofs.Forms.{back_size}
use Prim.Native.Nat.{◌+◌}
use Rattle.listpack.specs.Read.{as_text}
use Rattle.listpack.proofs.read.as_text.Goals as goal
use Rattle.std.proofs.Common.{Some}
use Rattle.listpack.specs.declared.Element.TheVariants.{Text}

pub overflow_add-result : goal.overflow_add-result
overflow_add-result c = let a = c.args in omega (arith, back_size (a.at + a.l))

pub returns-then-stands : goal.returns-then-stands
returns-then-stands c =
    let a = c.args in
    ap (λ k. Some (Text a.at a.l (a.at + a.l + k))) c.back_size.ensures ∙ sym (ap (as_text a.at a.l) c.if-stands.true ∙ text_made _ _)

pub returns : goal.returns
returns c = let a = c.args in sym (ap (as_text a.at a.l) c.if-stands.false ∙ text_bad _ _)
