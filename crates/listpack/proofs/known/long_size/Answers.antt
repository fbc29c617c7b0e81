-- Assumes nothing.
use mathlib.Core.Path.{◌≡◌, ap, ap₂, ◌∙◌}
use native.Mathlib.Omega.{arith}
use Rattle.listpack.proofs.There.{two_there, long_there, size_by}
use Rattle.listpack.specs.Element.{back_length}
use Rattle.listpack.proofs.Forms.{back_size}
use Prim.Native.Nat.{ℕ, ◌+◌, ◌-◌, ◌*◌}
use lib.ListN.{length}
use Rattle.listpack.proofs.known.long_size.Goals as goal

pub overflow_add-at : goal.overflow_add-at
overflow_add-at c = omega (arith, two_there _ _ c.requires.0)

pub bounds-s-at : goal.bounds-s-at
bounds-s-at c = omega (arith, two_there _ _ c.requires.0)

pub overflow_add-result : goal.overflow_add-result
overflow_add-result c = omega (arith, c.back_size.ensures, back_size (256 * (c.args.b - 224) + c.wide.result + 2))

pub returns : goal.returns
returns c =
    let x = c.args in
    let q : 256 * (x.b - 224) + c.wide.result + 2 ≡ 2 + (256 * (x.b - 224) + c.wide.result) = omega arith in
    ap₂ (λ (i j : ℕ). i + j) q (c.back_size.ensures ∙ ap (λ (n : ℕ). length (back_length n)) q) ∙ size_by _ _ _ (long_there _ _ c.requires.0 _ c.requires.1 _ c.wide.ensures.0 c.requires.2 c.requires.3)
