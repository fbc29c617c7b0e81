-- A choice by a test, under any claim P: prove it of each side with what the test says there. Assumes nothing.
use mathlib.Core.Path.{◌≡◌, refl}
use mathlib.Core.Bool.{Bool, true, false}
use Prim.Native.Nat.{ℕ, ◌≤◌, ◌<◌}
use lib.Dec.{ltb, leb, eqb}
use borrow.Author.Tests.{ltb-true, ltb-false, leb-true, leb-false, eqb-true, eqb-false}
use Rattle.octets.specs.Pick.{pick}

module _ {A : Type 0} (P : A → Type 0) where
  pick_is : (t u : Bool) (x y : A) → t ≡ u → (t ≡ true → P x) → (t ≡ false → P y) → P (pick u x y)
  pick_is t true x y e p q = p e
  pick_is t false x y e p q = q e

  pub pick_by : (t : Bool) (x y : A) → (t ≡ true → P x) → (t ≡ false → P y) → P (pick t x y)
  pick_by t x y = pick_is t t x y refl

  pub pick_lt : (a b : ℕ) (x y : A) → (a < b → P x) → (b ≤ a → P y) → P (pick (ltb a b) x y)
  pick_lt a b x y p q = pick_by (ltb a b) x y (λ e. p (ltb-true a b e)) (λ e. q (ltb-false a b e))

  pub pick_le : (a b : ℕ) (x y : A) → (a ≤ b → P x) → (b < a → P y) → P (pick (leb a b) x y)
  pick_le a b x y p q = pick_by (leb a b) x y (λ e. p (leb-true a b e)) (λ e. q (leb-false a b e))

  pub pick_eq : (a b : ℕ) (x y : A) → (a ≡ b → P x) → ((a ≡ b → ⊥) → P y) → P (pick (eqb a b) x y)
  pick_eq a b x y p q = pick_by (eqb a b) x y (λ e. p (eqb-true a b e)) (λ e. q (eqb-false a b e))

-- by which of two numbers is the lower
pub by_lower : {P : Type 0} (a b : ℕ) → (a < b → P) → (b ≤ a → P) → P
by_lower {P} a b f g = pick_lt (λ (_ : Bool). P) a b true true f g
