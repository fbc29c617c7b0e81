-- Rising entries: below a prefix, joined, taken apart by their first bytes. Assumes nothing.
use mathlib.Core.Path.{◌≡◌, refl, sym, ap, ap₂, ◌∙◌, subst}
use mathlib.Core.Bool.{Bool, true, false, true≢false}
use mathlib.Core.List.{List, [], ◌∷◌, ◌++◌}
use Rattle.std.proofs.Common.{Option, Some, None}
use Prim.Native.Nat.{ℕ, suc, ◌≤◌, ◌<◌}
use native.Mathlib.Omega.{arith}
use lib.Dec.{eqb}
use borrow.Author.Tests.{eqb-true, eqb-false, eq-eqb}
use Rattle.octets.specs.Pick.{both}
use Rattle.octets.specs.Compare.{order_of, comes_before}
use Rattle.keys.specs.Entries.{Entry, entry, all_above, rising}
use Rattle.radix.specs.Shape.{own, longer, own_entry, starting_with, not_starting_with}
use Rattle.radix.proofs.Under.{under}
use Rattle.radix.proofs.Keys.{StartsAt, From, longer_from, own_from_lem, starting_none, others_all}
use Rattle.keys.proofs.Laws.{keys_map, above_rising, before_equal, before_le, before_less, before_nil, both_left, both_right}

pub before_under : (l a b : List ℕ) → comes_before (l ++ a) (l ++ b) ≡ comes_before a b
before_under [] a b = refl
before_under (x ∷ l) a b = before_equal x x (l ++ a) (l ++ b) refl ∙ before_under l a b

above_under : (l k : List ℕ) (es : List Entry) → all_above (l ++ k) (under l es) ≡ all_above k es
unfolding all_above
above_under l k [] = refl
above_under l k (e ∷ es) = ap₂ both (before_under l k e.key) (above_under l e.key es)

pub rising_under : (l : List ℕ) (es : List Entry) → rising (under l es) ≡ rising es
unfolding rising
rising_under l [] = refl
rising_under l (e ∷ es) = above_under l e.key es

-- above a key there is no empty one, and no smaller first byte
starts_above : (n : ℕ) (k x : List ℕ) → StartsAt n k → comes_before k x ≡ true → StartsAt n x
starts_above n [] x p h = absurd p
starts_above n (b ∷ k) [] p h = absurd (true≢false (sym h ∙ before_nil (b ∷ k)))
starts_above n (b ∷ k) (c ∷ x) p h = omega (arith, before_le b c k x h)

starts_some : (k x : List ℕ) → comes_before k x ≡ true → StartsAt 0 x
starts_some k [] h = absurd (true≢false (sym h ∙ before_nil k))
starts_some k (c ∷ x) h = omega arith

pub above_from : (n : ℕ) (k : List ℕ) (es : List Entry) → StartsAt n k → all_above k es ≡ true → From n es
unfolding all_above
above_from n k [] p h = tt
above_from n k (e ∷ es) p h =
    let q = starts_above n k e.key p (both_left (comes_before k e.key) _ h) in
    (q, above_from n e.key es q (both_right (comes_before k e.key) _ h))

above_some : (k : List ℕ) (es : List Entry) → all_above k es ≡ true → From 0 es
unfolding all_above
above_some k [] h = tt
above_some k (e ∷ es) h =
    let q = starts_some k e.key (both_left (comes_before k e.key) _ h) in
    (q, above_from 0 e.key es q (both_right (comes_before k e.key) _ h))

-- the empty key stands first
pub longer_some : (es : List Entry) → rising es ≡ true → From 0 (longer es)
unfolding rising longer
longer_some [] h = tt
longer_some (e ∷ es) h = go e.key e.value h
  where
    go : (k : List ℕ) (v : ℕ) → all_above k es ≡ true → From 0 (longer (entry k v ∷ es))
    go [] v h = let f = above_some [] es h in rw (longer_from 0 es f) f
    go (b ∷ k) v h = let f = above_some (b ∷ k) es h in (omega arith, rw (longer_from 0 es f) f)

pub own_longer : (es : List Entry) → rising es ≡ true → own_entry [] (own es) ++ longer es ≡ es
unfolding rising longer own
own_longer [] h = refl
own_longer (e ∷ es) h = go e.key e.value h
  where
    go : (k : List ℕ) (v : ℕ) → all_above k es ≡ true → own_entry [] (own (entry k v ∷ es)) ++ longer (entry k v ∷ es) ≡ entry k v ∷ es
    go [] v h = rw (longer_from 0 es (above_some [] es h))
    go (b ∷ k) v h =
        let f = above_some (b ∷ k) es h in
        rw (own_from_lem 0 es f, longer_from 0 es f)

-- rising entries of first bytes from b on: those that start with b, then the others
pub record Parted (b : ℕ) (es : List Entry) : Type 0 where
  pub inside : List Entry
  pub starts : starting_with b es ≡ under (b ∷ []) inside
  pub joined : under (b ∷ []) inside ++ not_starting_with b es ≡ es
  pub over : From (suc b) (not_starting_with b es)

pub part_same : (b : ℕ) (k : List ℕ) (v : ℕ) (es : List Entry) → Parted b es → Parted b (entry (b ∷ k) v ∷ es)
unfolding starting_with not_starting_with
part_same b k v es w =
    let e : eqb b b ≡ true = eq-eqb b b refl in
    record {
      inside = entry k v ∷ w.inside;
      starts = rw e (ap (λ (z : List Entry). entry (b ∷ k) v ∷ z) w.starts);
      joined = rw e (ap (λ (z : List Entry). entry (b ∷ k) v ∷ z) w.joined);
      over = rw e w.over;
    }

part_next : (b c : ℕ) (k : List ℕ) (v : ℕ) (es : List Entry) → b < c → From (suc b) es → Parted b (entry (c ∷ k) v ∷ es)
part_next b c k v es h f =
    let g : From (suc b) (entry (c ∷ k) v ∷ es) = (h, f) in
    let o = others_all b (entry (c ∷ k) v ∷ es) g in
    record { inside = []; starts = starting_none b (entry (c ∷ k) v ∷ es) g; joined = o; over = rw o g }

pub part : (b : ℕ) (k : List ℕ) (es : List Entry) → StartsAt b k → all_above k es ≡ true → Parted b es
unfolding all_above starting_with not_starting_with
part b k [] p h = record { inside = []; starts = refl; joined = refl; over = tt }
part b k (e ∷ es) p h =
    let q = starts_above b k e.key p (both_left (comes_before k e.key) _ h) in
    let a = both_right (comes_before k e.key) _ h in
    go e.key e.value q a (part b e.key es q a)
  where
    by_first : (c : ℕ) (x : List ℕ) (v : ℕ) (t : Bool) → eqb b c ≡ t → b ≤ c → all_above (c ∷ x) es ≡ true → Parted b es → Parted b (entry (c ∷ x) v ∷ es)
    by_first c x v true r q a w = subst (λ (z : ℕ). Parted b (entry (z ∷ x) v ∷ es)) (eqb-true b c r) (part_same b x v es w)
    by_first c x v false r q a w =
        let lt : b < c = omega (arith, eqb-false b c r) in
        part_next b c x v es lt (above_from (suc b) (c ∷ x) es lt a)

    go : (x : List ℕ) (v : ℕ) → StartsAt b x → all_above x es ≡ true → Parted b es → Parted b (entry x v ∷ es)
    go [] v q a w = absurd q
    go (c ∷ x) v q a w = by_first c x v (eqb b c) refl q a w

pub before_over : (a : ℕ) (l k : List ℕ) → StartsAt (suc a) k → comes_before (a ∷ l) k ≡ true
before_over a l [] h = absurd h
before_over a l (b ∷ k) h = before_less a b l k h

empty_before : (n : ℕ) (k : List ℕ) → StartsAt n k → comes_before [] k ≡ true
unfolding order_of
empty_before n [] h = absurd h
empty_before n (b ∷ k) h = refl

pub rising_own : (v : Option ℕ) (es : List Entry) → From 0 es → rising es ≡ true → rising (own_entry [] v ++ es) ≡ true
unfolding rising
rising_own None es f r = r
rising_own (Some v) es f r = above_rising [] es (keys_map (StartsAt 0) (λ (x : List ℕ). comes_before [] x ≡ true) (empty_before 0) es f) r

-- entries of one first byte, then rising ones of larger first bytes
module _ (a : ℕ) (l : List ℕ) (ys : List Entry) (r : rising ys ≡ true) (f : From (suc a) ys) where
  above_join : (k : List ℕ) (xs : List Entry) → all_above k xs ≡ true → all_above (a ∷ l ++ k) (under (a ∷ l) xs ++ ys) ≡ true
  unfolding all_above
  above_join k [] h = above_rising (a ∷ l ++ k) ys (keys_map (StartsAt (suc a)) (λ (x : List ℕ). comes_before (a ∷ l ++ k) x ≡ true) (before_over a (l ++ k)) ys f) r
  above_join k (x ∷ xs) h =
      ap₂ both (before_under (a ∷ l) k x.key ∙ both_left (comes_before k x.key) _ h) (above_join x.key xs (both_right (comes_before k x.key) _ h))

  pub rising_join : (xs : List Entry) → rising xs ≡ true → rising (under (a ∷ l) xs ++ ys) ≡ true
  unfolding rising
  rising_join [] h = r
  rising_join (x ∷ xs) h = above_join x.key xs h
