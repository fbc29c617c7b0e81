-- `listpack::read::as_integer` meets its contract. Assumes nothing.
use mathlib.Core.Path.{sym, ap, ◌∙◌}
use native.Mathlib.Omega.{arith}
use Rattle.listpack.proofs.Leaves.{integer_made, integer_bad}
use Rattle.listpack.proofs.Forms.{back_size}
use Prim.Native.Nat.{◌+◌}
use Rattle.listpack.specs.Read.{as_integer}
use Rattle.listpack.proofs.read.as_integer.Goals as goal
use Rattle.std.proofs.Common.{Some}
use Rattle.listpack.specs.declared.Element.TheVariants.{Integer}

pub overflow_add-result : goal.overflow_add-result
overflow_add-result c = omega (arith, back_size c.args.n)

pub returns-then-stands : goal.returns-then-stands
returns-then-stands c =
    let a = c.args in
    ap (λ k. Some (Integer a.p (a.n + k))) c.back_size.ensures ∙ sym (ap (as_integer a.p a.n) c.if-stands.true ∙ integer_made _ _)

pub returns : goal.returns
returns c = let a = c.args in sym (ap (as_integer a.p a.n) c.if-stands.false ∙ integer_bad _ _)
