-- Assumes nothing.
use mathlib.Core.Path.{◌≡◌}
use Prim.Native.Nat.{◌-◌, ◌^◌}
use native.Mathlib.Omega.{arith}
use borrow.Author.Tests.{le-leb, lt-leb}
use Rattle.decimal.specs.Steps.{signed}
use Rattle.decimal.proofs.recognition.Recogniser.answer.Goals as goal

pub returns-then-n-eq0 : goal.returns-then-n-eq0
unfolding signed
returns-then-n-eq0 c =
    let e : c.in-Number.n ≡ 0 = omega arith in
    simp (c.in-Number.is, c.if-negative.true, e)

pub returns-then-n-gt-HALF : goal.returns-then-n-gt-HALF
unfolding signed
returns-then-n-gt-HALF c = simp (c.in-Number.is, c.if-negative.true, le-leb 1 c.in-Number.n (omega arith), lt-leb c.in-Number.n (2 ^ 63) (omega arith))

pub returns-then-negative : goal.returns-then-negative
unfolding signed
returns-then-negative c = simp (c.in-Number.is, c.if-negative.true, le-leb 1 c.in-Number.n (omega arith), le-leb c.in-Number.n (2 ^ 63) (omega arith)) (cc)

pub returns-then-n-ge-HALF : goal.returns-then-n-ge-HALF
unfolding signed
returns-then-n-ge-HALF c = simp (c.in-Number.is, c.if-negative.false, lt-leb c.in-Number.n (2 ^ 63 - 1) (omega arith))

pub returns-else-n-ge-HALF : goal.returns-else-n-ge-HALF
unfolding signed
returns-else-n-ge-HALF c = simp (c.in-Number.is, c.if-negative.false, le-leb c.in-Number.n (2 ^ 63 - 1) (omega arith))
