-- Assumes nothing.
use mathlib.Core.Path.{◌≡◌, sym, ◌∙◌}
use mathlib.Core.Bool.{true}
use Prim.Native.Nat.{◌^◌}
use native.Mathlib.Omega.{arith}
use lib.Dec.{leb}
use borrow.Author.Tests.{le-ltb, lt-ltb, leb-true}
use Rattle.octets.proofs.Laws.{both_true}
use Rattle.decimal.specs.Steps.{is_digit_from, grown}
use Rattle.decimal.proofs.recognition.grown.Goals as goal
use Rattle.decimal.proofs.recognition.grown.Goals.{Then-is_digit}

tested : (c : Then-is_digit) → let a = c.args in is_digit_from a.low a.b ≡ true
tested c = sym c.is_digit.ensures ∙ c.if-is_digit.true

pub returns-then-zero : goal.returns-then-zero
unfolding grown
returns-then-zero c = rw c.if-zero.true

pub returns-then-n-ge-FULL : goal.returns-then-n-ge-FULL
unfolding grown
returns-then-n-ge-FULL c = simp (c.if-zero.false, le-ltb c.args.n (10 ^ 18) (omega arith))

pub overflow_sub-b : goal.overflow_sub-b
unfolding grown
overflow_sub-b c =
    let a = c.args in
    omega (arith, leb-true a.low a.b (both_true (leb a.low a.b) (leb a.b 57) (tested (goal.at.overflow_sub-b c).Then-is_digit)).0)

pub returns-then-is_digit : goal.returns-then-is_digit
unfolding grown
returns-then-is_digit c = simp (c.if-zero.false, lt-ltb c.args.n (10 ^ 18) (omega arith), tested (goal.at.returns-then-is_digit c).Then-is_digit) (cc)

pub returns : goal.returns
unfolding grown
returns c = simp (c.if-zero.false, lt-ltb c.args.n (10 ^ 18) (omega arith), sym c.is_digit.ensures ∙ c.if-is_digit.false)
