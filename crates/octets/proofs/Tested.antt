-- Laws of the tests and the order: all_zero, same, order_of. Assumes nothing.
use mathlib.Core.Path.{◌≡◌, refl, sym, ap, ap₂, ◌∙◌}
use mathlib.Core.Bool.{Bool, true, false}
use mathlib.Core.List.{List, [], ◌∷◌}
use Prim.Native.Nat.{ℕ, zero, suc, max}
use native.Mathlib.Omega.{arith}
use lib.Dec.{eqb}
use lib.ListN.{length}
use borrow.Author.Tests.{eq-eqb, ne_eqb, eqb-true}
use Rattle.octets.specs.Pick.{pick, both}
use Rattle.octets.specs.Bytes.{zeros}
use Rattle.octets.specs.Compare.{all_zero, same}

-- a choice between two that are the same
pub pick_same : {A : Type 0} (t : Bool) (a : A) → pick t a a ≡ a
pick_same true a = refl
pick_same false a = refl

-- a test that holds does not fail
pub never : {t : Bool} → t ≡ true → t ≡ false → ⊥
never p q = let z : ◌≡◌ {A = ℕ} 0 1 = cc in omega arith

pub both_of : {a b : Bool} → a ≡ true → b ≡ true → both a b ≡ true
both_of p q = rw p q

pub both_false : (a : Bool) → both a false ≡ false
both_false a = pick_same a false

pub both_end : (a : Bool) → both a true ≡ a
both_end true = refl
both_end false = refl

pub both_assoc : (a b c : Bool) → both a (both b c) ≡ both (both a b) c
both_assoc true b c = refl
both_assoc false b c = refl

-- both tests hold where both says so
pub both_true : (a b : Bool) → both a b ≡ true → (a ≡ true) × (b ≡ true)
both_true true b e = (refl, e)
both_true false b e = absurd (let z : ◌≡◌ {A = ℕ} 0 1 = cc in omega arith)

-- the larger of two numbers is 0 exactly when both are
pub max_zero : (a b : ℕ) → eqb (max a b) 0 ≡ both (eqb a 0) (eqb b 0)
max_zero a zero = ap (λ (n : ℕ). eqb n 0) (let e : max a 0 ≡ a = omega arith in e) ∙ sym (both_end (eqb a 0))
max_zero a (suc b) =
    let e : eqb (max a (suc b)) 0 ≡ false = ne_eqb (max a (suc b)) 0 (λ e. omega arith) in
    let f : eqb (suc b) 0 ≡ false = ne_eqb (suc b) 0 (λ e. omega arith) in
    e ∙ sym (both_false (eqb a 0)) ∙ ap (both (eqb a 0)) (sym f)

pub zero_all : (n : ℕ) → all_zero (zeros n) ≡ true
unfolding all_zero
zero_all zero = refl
zero_all (suc n) = zero_all n

pub all_zero_lem : (s : List ℕ) → all_zero s ≡ true → s ≡ zeros (length s)
unfolding all_zero
all_zero_lem [] e = refl
all_zero_lem (x ∷ s) e =
    let p = both_true (eqb x 0) (all_zero s) e in
    ap₂ (λ (y : ℕ) (l : List ℕ). y ∷ l) (eqb-true x 0 p.0) (all_zero_lem s p.1)

pub same_refl : (s : List ℕ) → same s s ≡ true
unfolding same
same_refl [] = refl
same_refl (x ∷ s) = rw (eq-eqb x x refl) (same_refl s)

pub same_true : (a b : List ℕ) → same a b ≡ true → a ≡ b
unfolding same
same_true [] [] e = refl
same_true [] (y ∷ b) e = absurd (let z : ◌≡◌ {A = ℕ} 0 1 = cc in omega arith)
same_true (x ∷ a) [] e = absurd (let z : ◌≡◌ {A = ℕ} 0 1 = cc in omega arith)
same_true (x ∷ a) (y ∷ b) e =
    let p = both_true (eqb x y) (same a b) e in
    ap₂ (λ (z : ℕ) (l : List ℕ). z ∷ l) (eqb-true x y p.0) (same_true a b p.1)

pub same_false : (a b : List ℕ) → same a b ≡ false → a ≡ b → ⊥
same_false a b e q = let z : ◌≡◌ {A = ℕ} 0 1 = cc (same_refl a) in omega arith

pub same_length : (a b : List ℕ) → (length a ≡ length b → ⊥) → same a b ≡ false
unfolding same
same_length [] [] h = absurd (h refl)
same_length [] (y ∷ b) h = refl
same_length (x ∷ a) [] h = refl
same_length (x ∷ a) (y ∷ b) h = rw (same_length a b (λ e. h (ap suc e))) (pick_same (eqb x y) false)
