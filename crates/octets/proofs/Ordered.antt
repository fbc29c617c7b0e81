-- Laws of the bytewise order: it is total, and big-endian bytes are ordered as their numbers. Assumes nothing.
use mathlib.Core.Path.{◌≡◌, refl, sym, ap, ap₂, ◌∙◌}
use mathlib.Core.Bool.{Bool, true, false}
use mathlib.Core.List.{List, [], ◌∷◌, ◌++◌, append_assoc, append-nil}
use Prim.Native.Nat.{ℕ, zero, suc, ◌*◌, ◌/◌, ◌%◌, ◌^◌, ◌<◌}
use native.Mathlib.Omega.{arith}
use lib.Dec.{ltb}
use borrow.Author.Tests.{lt-ltb, le-ltb, ltb-true, ltb-false}
use Rattle.octets.specs.Pick.{pick}
use Rattle.octets.specs.Bytes.{be}
use Rattle.octets.specs.Compare.{order_of, same, is_less, comes_before, is_equal}
use Rattle.std.specs.declared.cmp.Ordering.{Ordering}
use Rattle.std.specs.declared.cmp.Ordering.TheVariants.{Less, Equal, Greater}
use Rattle.octets.proofs.Digits.{pow_byte}
use Rattle.octets.proofs.Tested.{never, same_true}

-- the order of the two the other way round
abbrev pub mirror : Ordering → Ordering
mirror Less = Greater
mirror Equal = Equal
mirror Greater = Less

-- the order of two numbers, and of what follows where they are equal
abbrev pub first : ℕ → ℕ → Ordering → Ordering
first x y o = pick (ltb x y) Less (pick (ltb y x) Greater o)

pub is_less_lem : (o : Ordering) → is_less o ≡ true → o ≡ Less
is_less_lem Less e = refl
is_less_lem Equal e = absurd (let z : ◌≡◌ {A = ℕ} 0 1 = cc in omega arith)
is_less_lem Greater e = absurd (let z : ◌≡◌ {A = ℕ} 0 1 = cc in omega arith)

pub is_equal_lem : (o : Ordering) → is_equal o ≡ true → o ≡ Equal
is_equal_lem Less e = absurd (let z : ◌≡◌ {A = ℕ} 0 1 = cc in omega arith)
is_equal_lem Equal e = refl
is_equal_lem Greater e = absurd (let z : ◌≡◌ {A = ℕ} 0 1 = cc in omega arith)

module _ (x y : ℕ) (o : Ordering) where
  pub first_less : x < y → first x y o ≡ Less
  first_less h = simp lt-ltb

  pub first_greater : y < x → first x y o ≡ Greater
  first_greater h = simp (le-ltb x y (omega arith), lt-ltb)

  pub first_equal : x ≡ y → first x y o ≡ o
  first_equal h = simp (le-ltb x y (omega arith), le-ltb y x (omega arith))

-- by the three cases
module _ {C : Type 0} where
  by_test : (x y : ℕ) (t u : Bool) → ltb x y ≡ t → ltb y x ≡ u → (x < y → C) → (y < x → C) → (x ≡ y → C) → C
  by_test x y true u p q less greater equal = less (ltb-true x y p)
  by_test x y false true p q less greater equal = greater (ltb-true y x q)
  by_test x y false false p q less greater equal = equal (omega (arith, ltb-false x y p, ltb-false y x q))

  pub by_order : (x y : ℕ) → (x < y → C) → (y < x → C) → (x ≡ y → C) → C
  by_order x y = by_test x y (ltb x y) (ltb y x) refl refl

pub order_refl : (a : List ℕ) → order_of a a ≡ Equal
unfolding order_of
order_refl [] = refl
order_refl (x ∷ a) = first_equal x x (order_of a a) refl ∙ order_refl a

pub order_mirror : (a b : List ℕ) → order_of b a ≡ mirror (order_of a b)
unfolding order_of
order_mirror [] [] = refl
order_mirror [] (y ∷ b) = refl
order_mirror (x ∷ a) [] = refl
order_mirror (x ∷ a) (y ∷ b) =
    by_order x y
    (λ h. first_greater y x (order_of b a) h ∙ ap mirror (sym (first_less x y (order_of a b) h)))
    (λ h. first_less y x (order_of b a) h ∙ ap mirror (sym (first_greater x y (order_of a b) h)))
    (λ h. first_equal y x (order_of b a) (sym h) ∙ order_mirror a b ∙ ap mirror (sym (first_equal x y (order_of a b) h)))

pub order_equal : (a b : List ℕ) → order_of a b ≡ Equal → a ≡ b
unfolding order_of
order_equal [] [] e = refl
order_equal [] (y ∷ b) e = absurd (let z : ◌≡◌ {A = ℕ} 0 1 = cc in omega arith)
order_equal (x ∷ a) [] e = absurd (let z : ◌≡◌ {A = ℕ} 0 1 = cc in omega arith)
order_equal (x ∷ a) (y ∷ b) e =
    by_order x y
    (λ h. absurd (let z : ◌≡◌ {A = ℕ} 0 1 = cc (first_less x y (order_of a b) h) in omega arith))
    (λ h. absurd (let z : ◌≡◌ {A = ℕ} 0 1 = cc (first_greater x y (order_of a b) h) in omega arith))
    (λ h. ap₂ (λ (z : ℕ) (l : List ℕ). z ∷ l) h (order_equal a b (sym (first_equal x y (order_of a b) h) ∙ e)))

-- where a first is not after the second
less_not : (x y : ℕ) (o : Ordering) → first x y o ≡ Less → y < x → ⊥
less_not x y o e h = let z : ◌≡◌ {A = ℕ} 0 1 = cc (first_greater x y o h) in omega arith

pub order_trans : (a b c : List ℕ) → order_of a b ≡ Less → order_of b c ≡ Less → order_of a c ≡ Less
unfolding order_of
order_trans [] [] c p q = absurd (let z : ◌≡◌ {A = ℕ} 0 1 = cc in omega arith)
order_trans (x ∷ a) [] c p q = absurd (let z : ◌≡◌ {A = ℕ} 0 1 = cc in omega arith)
order_trans [] (y ∷ b) [] p q = absurd (let z : ◌≡◌ {A = ℕ} 0 1 = cc in omega arith)
order_trans [] (y ∷ b) (z ∷ c) p q = refl
order_trans (x ∷ a) (y ∷ b) [] p q = absurd (let z : ◌≡◌ {A = ℕ} 0 1 = cc in omega arith)
order_trans (x ∷ a) (y ∷ b) (z ∷ c) p q =
    by_order x y
    (λ h. by_order y z
    (λ k. first_less x z (order_of a c) (omega arith))
    (λ k. absurd (less_not y z (order_of b c) q k))
    (λ k. first_less x z (order_of a c) (omega arith)))
    (λ h. absurd (less_not x y (order_of a b) p h))
    (λ h. by_order y z
    (λ k. first_less x z (order_of a c) (omega arith))
    (λ k. absurd (less_not y z (order_of b c) q k))
    (λ k. first_equal x z (order_of a c) (h ∙ k) ∙ order_trans a b c (sym (first_equal x y (order_of a b) h) ∙ p) (sym (first_equal y z (order_of b c) k) ∙ q)))

-- a number is ordered by its higher digits, then its lowest
first_digits : (a b : ℕ) (o : Ordering) → first (a / 256) (b / 256) (first (a % 256) (b % 256) o) ≡ first a b o
first_digits a b o =
    let r : Ordering = first (a % 256) (b % 256) o in
    by_order (a / 256) (b / 256)
    (λ h. first_less (a / 256) (b / 256) r h ∙ sym (first_less a b o (omega arith)))
    (λ h. first_greater (a / 256) (b / 256) r h ∙ sym (first_greater a b o (omega arith)))
    (λ h. first_equal (a / 256) (b / 256) r h
    ∙ by_order (a % 256) (b % 256)
    (λ k. first_less (a % 256) (b % 256) o k ∙ sym (first_less a b o (omega arith)))
    (λ k. first_greater (a % 256) (b % 256) o k ∙ sym (first_greater a b o (omega arith)))
    (λ k. first_equal (a % 256) (b % 256) o k ∙ sym (first_equal a b o (omega arith))))

-- big-endian numbers of one width, then anything
pub order_be : (w a b : ℕ) (xs ys : List ℕ) → a < 2 ^ (8 * w) → b < 2 ^ (8 * w)
    → order_of (be w a ++ xs) (be w b ++ ys) ≡ first a b (order_of xs ys)
unfolding be order_of
order_be zero a b xs ys h k = sym (first_equal a b (order_of xs ys) (omega arith))
order_be (suc w) a b xs ys h k =
    let o : Ordering = order_of xs ys in
    let p : a / 256 < 2 ^ (8 * w) = omega (arith, pow_byte w) in
    let q : b / 256 < 2 ^ (8 * w) = omega (arith, pow_byte w) in
    ap₂ order_of (append_assoc (be w (a / 256)) ((a % 256) ∷ []) xs) (append_assoc (be w (b / 256)) ((b % 256) ∷ []) ys)
    ∙ order_be w (a / 256) (b / 256) ((a % 256) ∷ xs) ((b % 256) ∷ ys) p q
    ∙ first_digits a b o

pub order_be_alone : (w a b : ℕ) → a < 2 ^ (8 * w) → b < 2 ^ (8 * w) → order_of (be w a) (be w b) ≡ first a b Equal
unfolding order_of
order_be_alone w a b h k = ap₂ order_of (sym (append-nil (be w a))) (sym (append-nil (be w b))) ∙ order_be w a b [] [] h k

-- the first of two comes before the second
pub before_self : (a : List ℕ) → comes_before a a ≡ false
before_self a = ap is_less (order_refl a)

pub before_trans : (a b c : List ℕ) → comes_before a b ≡ true → comes_before b c ≡ true → comes_before a c ≡ true
before_trans a b c p q = ap is_less (order_trans a b c (is_less_lem (order_of a b) p) (is_less_lem (order_of b c) q))

pub before_differs : (a b : List ℕ) → comes_before a b ≡ true → same a b ≡ false
before_differs a b h = by (same a b) refl
  where
    by : (t : Bool) → same a b ≡ t → t ≡ false
    by false e = refl
    by true e = absurd (never h (ap (comes_before a) (sym (same_true a b e)) ∙ before_self a))
