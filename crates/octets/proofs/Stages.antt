-- Of a `do` block that answered: every rule held, and every answer was there. Each law hands on what is left of the block.
-- Assumes nothing.
use mathlib.Core.Path.{◌≡◌, refl}
use mathlib.Core.Bool.{Bool, true, false, not}
use Prim.Native.Nat.{ℕ}
use native.Mathlib.Omega.{arith}
use Rattle.std.proofs.Common.{is_none, Option, Some, None}
use Rattle.octets.specs.Maybe.{◌>>=◌, ◌>>◌, need}

pub needed : {B P : Type 0} (t : Bool) (o : Option B) {b : B} → (need t >> o) ≡ Some b → (t ≡ true → o ≡ Some b → P) → P
needed true o e k = k refl e
needed false o e k = absurd (let z : ◌≡◌ {A = ℕ} 0 1 = cc in omega arith)

pub answered : {A B P : Type 0} (o : Option A) (f : A → Option B) {b : B} → (o >>= f) ≡ Some b → ((a : A) → o ≡ Some a → f a ≡ Some b → P) → P
answered None f e k = absurd (let z : ◌≡◌ {A = ℕ} 0 1 = cc in omega arith)
answered (Some a) f e k = k a refl e

pub some_is : {A : Type 0} {a b : A} → Some a ≡ Some b → a ≡ b
some_is e = cc

pub none_mapped : {A B : Type 0} (f : A → B) (o : Option A) → is_none (o >>= (λ (a : A). Some (f a))) ≡ is_none o
none_mapped f None = refl
none_mapped f (Some a) = refl

pub none_is : {A : Type 0} (o : Option A) → is_none o ≡ true → o ≡ None
none_is None e = refl
none_is (Some a) e = absurd (let z : ◌≡◌ {A = ℕ} 0 1 = cc in omega arith)

-- a block of one rule answers exactly when the rule holds
pub needed_some : {A : Type 0} (t : Bool) (a : A) → not (is_none (need t >> Some a)) ≡ t
needed_some true a = refl
needed_some false a = refl
