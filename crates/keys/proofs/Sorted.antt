-- Rising entries: below a prefix, joined, taken apart by their first bytes. Assumes nothing.
use mathlib.Core.Path.{◌≡◌, refl, sym, ap, ap₂, ◌∙◌}
use mathlib.Core.Bool.{Bool, true, false, true≢false}
use mathlib.Core.List.{List, [], ◌∷◌, ◌++◌}
use Prim.Native.Nat.{ℕ, ◌≤◌, ◌<◌}
use lib.Dec.{ltb}
use borrow.Author.Tests.{ltb-true, ltb-false}
use Rattle.octets.specs.Pick.{both}
use Rattle.octets.specs.Compare.{order_of, is_less, comes_before}
use Rattle.octets.proofs.Laws.{both_true, first_less, first_equal, first_greater}
use Rattle.keys.specs.Entries.{Entry, all_above, rising}
use Rattle.keys.proofs.Every.{Keys}

pub both_left : (a b : Bool) → both a b ≡ true → a ≡ true
both_left a b h = (both_true a b h).0

pub both_right : (a b : Bool) → both a b ≡ true → b ≡ true
both_right a b h = (both_true a b h).1

module _ (x y : ℕ) (a b : List ℕ) where
  pub before_less : x < y → comes_before (x ∷ a) (y ∷ b) ≡ true
  unfolding order_of
  before_less h = ap is_less (first_less x y (order_of a b) h)

  pub before_equal : x ≡ y → comes_before (x ∷ a) (y ∷ b) ≡ comes_before a b
  unfolding order_of
  before_equal h = ap is_less (first_equal x y (order_of a b) h)

  pub before_greater : y < x → comes_before (x ∷ a) (y ∷ b) ≡ false
  unfolding order_of
  before_greater h = ap is_less (first_greater x y (order_of a b) h)

pub before_le : (x y : ℕ) (a b : List ℕ) → comes_before (x ∷ a) (y ∷ b) ≡ true → x ≤ y
before_le x y a b h = go (ltb y x) refl
  where
    go : (t : Bool) → ltb y x ≡ t → x ≤ y
    go true e = absurd (true≢false (sym h ∙ before_greater x y a b (ltb-true y x e)))
    go false e = ltb-false y x e

pub before_nil : (a : List ℕ) → comes_before a [] ≡ false
unfolding order_of
before_nil [] = refl
before_nil (x ∷ a) = refl

pub rising_tail : (k : List ℕ) (es : List Entry) → all_above k es ≡ true → rising es ≡ true
unfolding rising all_above
rising_tail k [] h = refl
rising_tail k (e ∷ es) h = both_right (comes_before k e.key) (all_above e.key es) h

above_left : (k : List ℕ) (xs ys : List Entry) → all_above k (xs ++ ys) ≡ true → all_above k xs ≡ true
unfolding all_above
above_left k [] ys h = refl
above_left k (x ∷ xs) ys h =
    ap₂ both (both_left (comes_before k x.key) _ h) (above_left x.key xs ys (both_right (comes_before k x.key) _ h))

pub rising_left : (xs ys : List Entry) → rising (xs ++ ys) ≡ true → rising xs ≡ true
unfolding rising
rising_left [] ys h = refl
rising_left (x ∷ xs) ys h = above_left x.key xs ys h

pub rising_right : (xs ys : List Entry) → rising (xs ++ ys) ≡ true → rising ys ≡ true
unfolding rising
rising_right [] ys h = h
rising_right (x ∷ xs) ys h = rising_right xs ys (rising_tail x.key (xs ++ ys) h)

-- a key in front of rising entries that it comes before
pub above_rising : (k : List ℕ) (es : List Entry) → Keys (λ (x : List ℕ). comes_before k x ≡ true) es → rising es ≡ true → all_above k es ≡ true
unfolding rising all_above
above_rising k [] h r = refl
above_rising k (e ∷ es) h r = ap₂ both h.0 r
