-- How a label and a key compare: the key starts with the label, or all that the label leads to lies on one side of it. Assumes nothing.
use mathlib.Core.Path.{◌≡◌, refl, sym, ap, ap₂, ◌∙◌}
use mathlib.Core.Bool.{Bool, true, false, true≢false}
use mathlib.Core.List.{List, [], ◌∷◌, ◌++◌}
use Prim.Native.Nat.{ℕ}
use lib.Dec.{eqb}
use lib.ListN.{length, drop}
use borrow.Author.Tests.{eq-eqb, eqb-true}
use Rattle.octets.specs.Pick.{both}
use Rattle.octets.specs.Compare.{order_of, comes_before}
use Rattle.octets.proofs.Laws.{by_order}
use Rattle.radix.specs.Shape.{starts_with}
use Rattle.keys.proofs.Laws.{both_left, both_right, before_less, before_equal, before_greater, before_nil}

pub starts_split : (l k : List ℕ) → starts_with l k ≡ true → k ≡ l ++ drop (length l) k
unfolding starts_with
starts_split [] k h = refl
starts_split (x ∷ l) [] h = absurd (true≢false (sym h))
starts_split (x ∷ l) (y ∷ k) h =
    ap₂ (λ (b : ℕ) (z : List ℕ). b ∷ z) (sym (eqb-true x y (both_left (eqb x y) (starts_with l k) h))) (starts_split l k (both_right (eqb x y) (starts_with l k) h))

pub starts_append : (l k : List ℕ) → starts_with l (l ++ k) ≡ true
unfolding starts_with
starts_append [] k = refl
starts_append (x ∷ l) k = rw (eq-eqb x x refl) (starts_append l k)

-- what the label l leads to, against the key k
-- not before it: nor is any of them
pub before_keep : (l k x : List ℕ) → comes_before l k ≡ false → comes_before (l ++ x) k ≡ false
unfolding order_of
before_keep [] [] x h = before_nil x
before_keep [] (c ∷ k) x h = absurd (true≢false h)
before_keep (b ∷ l) [] x h = refl
before_keep (b ∷ l) (c ∷ k) x h =
    by_order b c
    (λ p. absurd (true≢false (sym (before_less b c l k p) ∙ h)))
    (λ p. before_greater b c (l ++ x) k p)
    (λ p. before_equal b c (l ++ x) k p ∙ before_keep l k x (sym (before_equal b c l k p) ∙ h))

-- before it, and no start of it: so is each of them
pub before_all : (l k x : List ℕ) → comes_before l k ≡ true → starts_with l k ≡ false → comes_before (l ++ x) k ≡ true
unfolding starts_with
before_all [] k x h s = absurd (true≢false s)
before_all (b ∷ l) [] x h s = absurd (true≢false (sym h ∙ before_nil (b ∷ l)))
before_all (b ∷ l) (c ∷ k) x h s =
    by_order b c
    (λ p. before_less b c (l ++ x) k p)
    (λ p. absurd (true≢false (sym h ∙ before_greater b c l k p)))
    (λ p. before_equal b c (l ++ x) k p ∙ before_all l k x (sym (before_equal b c l k p) ∙ h) (sym (ap (λ (t : Bool). both t (starts_with l k)) (eq-eqb b c p)) ∙ s))

-- the key comes before it: and before each of them
pub after_all : (l k x : List ℕ) → comes_before k l ≡ true → comes_before k (l ++ x) ≡ true
unfolding order_of
after_all [] k x h = absurd (true≢false (sym h ∙ before_nil k))
after_all (b ∷ l) [] x h = refl
after_all (b ∷ l) (c ∷ k) x h =
    by_order c b
    (λ p. before_less c b k (l ++ x) p)
    (λ p. absurd (true≢false (sym h ∙ before_greater c b k l p)))
    (λ p. before_equal c b k (l ++ x) p ∙ after_all l k x (sym (before_equal c b k l p) ∙ h))

-- the key does not come before it nor starts with it: it comes before none of them
pub after_keep : (l k x : List ℕ) → comes_before k l ≡ false → starts_with l k ≡ false → comes_before k (l ++ x) ≡ false
unfolding order_of starts_with
after_keep [] k x h s = absurd (true≢false s)
after_keep (b ∷ l) [] x h s = absurd (true≢false h)
after_keep (b ∷ l) (c ∷ k) x h s =
    by_order c b
    (λ p. absurd (true≢false (sym (before_less c b k l p) ∙ h)))
    (λ p. before_greater c b k (l ++ x) p)
    (λ p. before_equal c b k (l ++ x) p ∙ after_keep l k x (sym (before_equal c b k l p) ∙ h) (sym (ap (λ (t : Bool). both t (starts_with l k)) (eq-eqb b c (sym p))) ∙ s))
