-- A label against as many bytes of a key, and so against the whole key. Assumes nothing.
use mathlib.Core.Path.{◌≡◌, refl, sym, ap, ◌∙◌}
use mathlib.Core.Bool.{true, false, true≢false}
use mathlib.Core.List.{List, [], ◌∷◌, ◌++◌, append-nil}
use Prim.Native.Nat.{ℕ, ◌≤◌, ◌<◌}
use native.Mathlib.Omega.{arith}
use lib.ListN.{length, take, drop, take-append-drop, length-drop, drop_of_length-le}
use lib.Seq.{take_at}
use Rattle.octets.specs.Compare.{order_of, is_less, comes_before}
use Rattle.std.specs.declared.cmp.Ordering.{Ordering}
use Rattle.std.specs.declared.cmp.Ordering.TheVariants.{Less, Equal, Greater}
use Rattle.octets.proofs.Laws.{mirror, by_order, first_less, first_equal, order_equal, before_self}
use Rattle.radix.specs.Shape.{starts_with}
use Rattle.keys.proofs.Laws.{before_less, before_equal, before_nil, is_false, before_once}
use Rattle.radix.proofs.Laws.{before_under, starts_split, starts_append, before_keep, after_all}

-- the label comes before the key, which does not start with it
module _ (l k : List ℕ) (e : order_of l (take (length l) k) ≡ Less) where
  pub less_before : comes_before l k ≡ true
  less_before = ap (comes_before l) (sym (take-append-drop (length l) k)) ∙ after_all (take (length l) k) l (drop (length l) k) (ap is_less e)

  pub less_starts : starts_with l k ≡ false
  less_starts =
      is_false (starts_with l k)
      (λ s. true≢false
      (sym (ap is_less e)
      ∙ ap (comes_before l) (ap (take (length l)) (starts_split l k s) ∙ take_at l (drop (length l) k) (length l) refl)
      ∙ before_self l))

  pub less_not : comes_before k l ≡ false
  less_not = before_once l k less_before

-- the key comes before the label
pub greater_before : (l k : List ℕ) → order_of l (take (length l) k) ≡ Greater → comes_before k l ≡ true
unfolding order_of
greater_before [] k e = absurd (true≢false (sym (ap (λ (o : Ordering). is_less (mirror o)) e)))
greater_before (b ∷ l) [] e = refl
greater_before (b ∷ l) (c ∷ k) e =
    by_order b c
    (λ p. absurd (true≢false (ap is_less (sym (first_less b c (order_of l (take (length l) k)) p) ∙ e))))
    (λ p. before_less c b k l p)
    (λ p. before_equal c b k l (sym p) ∙ greater_before l k (sym (first_equal b c (order_of l (take (length l) k)) p) ∙ e))

pub greater_not : (l k : List ℕ) → order_of l (take (length l) k) ≡ Greater → comes_before l k ≡ false
greater_not l k e = before_once k l (greater_before l k e)

-- the key starts with the label
module _ (l k : List ℕ) (e : order_of l (take (length l) k) ≡ Equal) where
  pub equal_is : take (length l) k ≡ l
  equal_is = sym (order_equal l (take (length l) k) e)

  split : k ≡ l ++ drop (length l) k
  split = sym (take-append-drop (length l) k) ∙ ap (λ (t : List ℕ). t ++ drop (length l) k) equal_is

  pub equal_starts : starts_with l k ≡ true
  equal_starts = ap (starts_with l) split ∙ starts_append l (drop (length l) k)

  pub equal_not : comes_before k l ≡ false
  equal_not = ap (λ (z : List ℕ). comes_before z l) split ∙ before_keep l l (drop (length l) k) (before_self l)

  beside : comes_before l k ≡ comes_before [] (drop (length l) k)
  beside =
      ap (comes_before l) split
      ∙ ap (λ (z : List ℕ). comes_before z (l ++ drop (length l) k)) (sym (append-nil l))
      ∙ before_under l [] (drop (length l) k)

  pub equal_whole : length k ≤ length l → comes_before l k ≡ false
  equal_whole h = beside ∙ ap (comes_before []) (drop_of_length-le k h) ∙ before_nil []

  pub equal_more : length l < length k → comes_before l k ≡ true
  unfolding order_of
  equal_more h = beside ∙ before_some (drop (length l) k) (omega (arith, length-drop (length l) k))
    where
      before_some : (r : List ℕ) → 0 < length r → comes_before [] r ≡ true
      before_some [] d = absurd (omega arith)
      before_some (b ∷ r) d = refl
