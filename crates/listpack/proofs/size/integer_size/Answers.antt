-- `listpack::size::integer_size` meets its contract. Assumes nothing.
use mathlib.Core.Path.{sym, ap, ap₂, ◌∙◌}
use native.Mathlib.Omega.{arith}
use Rattle.listpack.proofs.Forms.{body_size, back_size}
use Rattle.listpack.proofs.Sizes.{integer_is}
use Prim.Native.Nat.{◌+◌}
use lib.ListN.{length}
use Rattle.listpack.specs.Element.{back_length}
use Rattle.listpack.proofs.size.integer_size.Goals as goal

pub overflow_add-result : goal.overflow_add-result
overflow_add-result c = let n = c.body_size-n.result in omega (arith, body_size c.args.p, back_size n)

pub returns : goal.returns
returns c =
    let e = c.body_size-n.ensures in
    ap₂ (λ i j. i + j) e (c.back_size.ensures ∙ ap (λ k. length (back_length k)) e) ∙ sym (integer_is _)
