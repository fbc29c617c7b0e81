-- Assumes nothing.
use mathlib.Core.Path.{◌≡◌}
use native.Mathlib.Omega.{arith}
use borrow.Author.Tests.{le-leb, lt-leb, ne_eqb}
use Rattle.decimal.specs.Steps.{grown}
use Rattle.decimal.proofs.recognition.Recogniser.step.Goals as goal

pub returns-then-byte-gt57 : goal.returns-then-byte-gt57
unfolding grown
returns-then-byte-gt57 c =
    let b = c.args.byte in
    simp (c.in-Empty.is, ne_eqb b 48 (λ q. omega arith), ne_eqb b 45 (λ q. omega arith), le-leb 49 b (omega arith), lt-leb b 57 (omega arith))

pub returns-then-byte-eq48 : goal.returns-then-byte-eq48
unfolding grown
returns-then-byte-eq48 c = let e : c.args.byte ≡ 48 = omega arith in rw (c.in-Empty.is, e)

pub returns-then-byte-eq45 : goal.returns-then-byte-eq45
unfolding grown
returns-then-byte-eq45 c = let e : c.args.byte ≡ 45 = omega arith in rw (c.in-Empty.is, e)

pub returns-in-Number : goal.returns-in-Number
unfolding grown
returns-in-Number c = rw c.in-Number.is (cc)

pub returns-else-byte-eq45 : goal.returns-else-byte-eq45
unfolding grown
returns-else-byte-eq45 c =
    let b = c.args.byte in
    simp (c.in-Empty.is, ne_eqb b 48 (λ q. omega arith), ne_eqb b 45 (λ q. omega arith)) c.grown-in-Empty.ensures

pub returns-in-Minus : goal.returns-in-Minus
unfolding grown
returns-in-Minus c = rw c.in-Minus.is (cc)

pub returns-in-Failed : goal.returns-in-Failed
unfolding grown
returns-in-Failed c = rw c.in-Failed.is
