-- `listpack::size::text_size` meets its contract. Assumes nothing.
use mathlib.Core.Path.{sym, ap, ap₂, ◌∙◌}
use native.Mathlib.Omega.{arith}
use Rattle.listpack.proofs.Forms.{head_size, back_size}
use Rattle.listpack.proofs.Sizes.{text_size_is}
use Prim.Native.Nat.{◌+◌}
use lib.ListN.{length}
use Rattle.listpack.specs.Element.{back_length}
use Rattle.listpack.proofs.size.text_size.Goals as goal

pub overflow_add-n : goal.overflow_add-n
overflow_add-n c = omega (arith, head_size c.args.l)

pub overflow_add-result : goal.overflow_add-result
overflow_add-result c = let l = c.args.l in omega (arith, head_size l, back_size (c.head_size.result + l))

pub returns : goal.returns
returns c =
    let l = c.args.l in
    let e = c.head_size.ensures in
    ap₂ (λ i j. i + l + j) e (c.back_size.ensures ∙ ap (λ k. length (back_length (k + l))) e) ∙ sym (text_size_is l)
