-- `listpack::read::back_at` meets its contract. Assumes nothing.
use mathlib.Core.Path.{sym, ap, ◌∙◌}
use native.Mathlib.Omega.{arith}
use Rattle.listpack.proofs.Cases.{size_back_1, size_back_2}
use Rattle.listpack.proofs.Leaves.{back_none, back_1, back_other, back_2}
use lib.Dec.{eqb}
use Prim.Native.Nat.{◌+◌, ◌%◌}
use Rattle.listpack.proofs.read.back_at.Goals as goal

pub returns-then-s-n : goal.returns-then-s-n
returns-then-s-n c = let a = c.args in sym (back_none a.n a.s.now (omega (arith, size_back_1 a.n (omega arith))))

pub returns-then-n-lt128 : goal.returns-then-n-lt128
returns-then-n-lt128 c =
    let a = c.args in
    ap (λ x. eqb x a.n) c.wide.ensures.0 ∙ sym (back_1 _ _ (omega arith) (omega arith))

pub returns-then-s-n-2 : goal.returns-then-s-n-2
returns-then-s-n-2 c = let a = c.args in sym (back_none a.n a.s.now (omega (arith, size_back_2 a.n (omega arith))))

pub returns-then-wide-n : goal.returns-then-wide-n
returns-then-wide-n c = sym (back_other _ _ (omega arith) (omega arith) (omega arith))

pub returns : goal.returns
returns c =
    let a = c.args in
    ap (λ x. eqb x (128 + a.n % 128)) c.wide-3.ensures.0 ∙ sym (back_2 _ _ (omega arith) (omega arith) (omega arith))
