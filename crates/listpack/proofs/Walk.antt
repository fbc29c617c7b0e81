-- What holds whichever way a test goes, shown by its two ways. Assumes nothing.
use mathlib.Core.Path.{◌≡◌, refl}
use mathlib.Core.Bool.{Bool, true, false}
use Rattle.std.proofs.Common.{Option, Some, None}
use Prim.Native.Nat.{ℕ}
use native.Mathlib.Omega.{arith}
use Rattle.octets.specs.Pick.{pick}
use Rattle.octets.specs.Maybe.{◌>>=◌, ◌>>◌, need}

-- both tests hold, or the answer is the other one
pub both_by : {A : Type 0} (P : A → Type 0) (t u : Bool) (x y : A) → (t ≡ true → u ≡ true → P x) → P y → P (pick (pick t u false) x y)
both_by P true true x y f g = f refl refl
both_by P true false x y f g = g
both_by P false u x y f g = g

-- a `do` block that has an answer, step by step
pub record Bound {A B : Type 0} (o : Option A) (f : A → Option B) (b : B) : Type 0 where
  pub value : A
  pub is : o ≡ Some value
  pub goes_on : f value ≡ Some b

pub bound : {A B : Type 0} (o : Option A) (f : A → Option B) (b : B) → (o >>= f) ≡ Some b → Bound o f b
bound None f b e = absurd (let z : ◌≡◌ {A = ℕ} 0 1 = cc in omega arith)
bound (Some a) f b e = record { value = a; is = refl; goes_on = e }

pub needed : {B : Type 0} (t : Bool) (o : Option B) (b : B) → (need t >> o) ≡ Some b → (t ≡ true) × (o ≡ Some b)
needed true o b e = (refl, e)
needed false o b e = absurd (let z : ◌≡◌ {A = ℕ} 0 1 = cc in omega arith)
