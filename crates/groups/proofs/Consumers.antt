-- Consumers by rising name: one put in at its place, one taken out, and what becomes of the others' places. Assumes nothing.
use mathlib.Core.Path.{◌≡◌, refl, sym, ap, ◌∙◌}
use mathlib.Core.Bool.{Bool, true, false}
use mathlib.Core.List.{List, [], ◌∷◌, ◌++◌}
use Prim.Native.Nat.{ℕ, suc, ◌+◌, ◌≤◌}
use native.Mathlib.Omega.{arith}
use lib.ListN.{length, take, drop}
use Rattle.octets.specs.Pick.{pick}
use Rattle.octets.specs.Compare.{same, order_of, is_less, comes_before}
use Rattle.std.specs.declared.cmp.Ordering.TheVariants.{Less, Equal, Greater}
use Rattle.octets.proofs.Laws.{both_true, mirror, pick_by, order_equal, order_mirror, same_refl, same_true, both_of, never, before_trans, before_differs}
use Rattle.groups.specs.Group.{is_name, are_names, names_above, is_among}
use Rattle.groups.specs.Bytes.{place_of_name}
use Rattle.groups.specs.Step.{with_name, without_name}
use Rattle.groups.proofs.Names.{same_swap, after_differs}
use Rattle.groups.proofs.Orders.{by_three}

-- by the order of two names
pub by_name : {C : Type 0} (a b : List ℕ) → (order_of a b ≡ Less → C) → (order_of a b ≡ Equal → C) → (order_of a b ≡ Greater → C) → C
by_name a b = by_three (order_of a b)

pub greater_before : (a b : List ℕ) → order_of a b ≡ Greater → comes_before b a ≡ true
greater_before a b e = ap is_less (order_mirror a b ∙ ap mirror e)

pub equal_same : (a b : List ℕ) → order_of a b ≡ Equal → same a b ≡ true
equal_same a b e = rw (order_equal a b e) (same_refl b)

-- among a name and others
pub among_first : (n m : List ℕ) (ms : List (List ℕ)) → same n m ≡ true → is_among n (m ∷ ms) ≡ true
unfolding is_among
among_first n m ms e = rw e

pub among_later : (n m : List ℕ) (ms : List (List ℕ)) → is_among n ms ≡ true → is_among n (m ∷ ms) ≡ true
unfolding is_among
among_later n m ms e = pick_by (λ (b : Bool). b ≡ true) (same n m) true (is_among n ms) (λ h. refl) (λ h. e)

pub among_rest : (n m : List ℕ) (ms : List (List ℕ)) → same n m ≡ false → is_among n (m ∷ ms) ≡ is_among n ms
unfolding is_among
among_rest n m ms e = rw e

pub names_lower : (a b : List ℕ) (ns : List (List ℕ)) → comes_before a b ≡ true → names_above b ns ≡ true → names_above a ns ≡ true
unfolding names_above
names_lower a b [] h k = refl
names_lower a b (n ∷ ns) h k =
    let q = both_true (comes_before b n) (names_above n ns) k in both_of (before_trans a b n h q.0) q.1

-- no name that the others rise above is among them
pub not_among : (n : List ℕ) (ms : List (List ℕ)) → names_above n ms ≡ true → is_among n ms ≡ false
unfolding names_above
not_among n [] e = unfold is_among in refl
not_among n (m ∷ ms) e =
    let p = both_true (comes_before n m) (names_above m ms) e in
    among_rest n m ms (before_differs n m p.0) ∙ not_among n ms (names_lower n m ms p.0 p.1)

-- a consumer put in
module _ (n : List ℕ) where
  pub with_equal : (m : List ℕ) (ms : List (List ℕ)) → order_of n m ≡ Equal → with_name n (m ∷ ms) ≡ m ∷ ms
  unfolding with_name
  with_equal m ms e = rw (equal_same n m e)

  pub with_less : (m : List ℕ) (ms : List (List ℕ)) → order_of n m ≡ Less → with_name n (m ∷ ms) ≡ n ∷ (m ∷ ms)
  unfolding with_name
  with_less m ms e = rw (before_differs n m (ap is_less e), e)

  pub with_greater : (m : List ℕ) (ms : List (List ℕ)) → order_of n m ≡ Greater → with_name n (m ∷ ms) ≡ m ∷ with_name n ms
  unfolding with_name
  with_greater m ms e = rw (after_differs m n (greater_before n m e), e)

  pub names_with : is_name n ≡ true → (ns : List (List ℕ)) → are_names ns ≡ true → are_names (with_name n ns) ≡ true
  unfolding are_names
  names_with h [] e = unfold with_name in both_of h refl
  names_with h (m ∷ ms) e =
      let p = both_true (is_name m) (are_names ms) e in
      by_name n m
      (λ o. rw (with_less m ms o) (both_of h e))
      (λ o. rw (with_equal m ms o) e)
      (λ o. rw (with_greater m ms o) (both_of p.0 (names_with h ms p.1)))

  pub above_with : (a : List ℕ) → comes_before a n ≡ true → (ns : List (List ℕ)) → names_above a ns ≡ true → names_above a (with_name n ns) ≡ true
  unfolding names_above
  above_with a h [] e = unfold with_name in both_of h refl
  above_with a h (m ∷ ms) e =
      let p = both_true (comes_before a m) (names_above m ms) e in
      by_name n m
      (λ o. rw (with_less m ms o) (both_of h (both_of (ap is_less o) p.1)))
      (λ o. rw (with_equal m ms o) e)
      (λ o. rw (with_greater m ms o) (both_of p.0 (above_with m (greater_before n m o) ms p.1)))

  pub among_new : (ns : List (List ℕ)) → is_among n (with_name n ns) ≡ true
  among_new [] = unfold with_name in among_first n n [] (same_refl n)
  among_new (m ∷ ms) =
      by_name n m
      (λ o. rw (with_less m ms o) (among_first n n (m ∷ ms) (same_refl n)))
      (λ o. rw (with_equal m ms o) (among_first n m ms (equal_same n m o)))
      (λ o. rw (with_greater m ms o) (among_later n m (with_name n ms) (among_new ms)))

  among_tail : (x m : List ℕ) (ms ns : List (List ℕ)) (t : Bool) → same x m ≡ t → pick t true (is_among x ms) ≡ true
      → (is_among x ms ≡ true → is_among x ns ≡ true) → is_among x (m ∷ ns) ≡ true
  among_tail x m ms ns true e h r = among_first x m ns e
  among_tail x m ms ns false e h r = among_later x m ns (r h)

  pub among_with : (x : List ℕ) (ns : List (List ℕ)) → is_among x ns ≡ true → is_among x (with_name n ns) ≡ true
  unfolding is_among
  among_with x [] e = absurd (never refl (sym e))
  among_with x (m ∷ ms) e =
      by_name n m
      (λ o. rw (with_less m ms o) (among_later x n (m ∷ ms) e))
      (λ o. rw (with_equal m ms o) e)
      (λ o. rw (with_greater m ms o) (among_tail x m ms (with_name n ms) (same x m) refl e (among_with x ms)))

  -- one that is there already
  pub with_known : (a : List ℕ) (ns : List (List ℕ)) → names_above a ns ≡ true → is_among n ns ≡ true → with_name n ns ≡ ns
  unfolding names_above
  with_known a [] e h = absurd (never h (unfold is_among in refl))
  with_known a (m ∷ ms) e h =
      let p = both_true (comes_before a m) (names_above m ms) e in
      by_name n m
      (λ o. absurd (never h (not_among n (m ∷ ms) (unfold names_above in both_of (ap is_less o) p.1))))
      (λ o. with_equal m ms o)
      (λ o. with_greater m ms o
      ∙ ap (λ (l : List (List ℕ)). m ∷ l) (with_known m ms p.1 (sym (among_rest n m ms (after_differs m n (greater_before n m o))) ∙ h)))

-- a consumer taken out
module _ (n : List ℕ) where
  names_case : (m : List ℕ) (ms xs : List (List ℕ)) (t : Bool) → are_names (m ∷ ms) ≡ true → (are_names ms ≡ true → are_names xs ≡ true)
      → are_names (pick t ms (m ∷ xs)) ≡ true
  unfolding are_names
  names_case m ms xs true e r = (both_true (is_name m) (are_names ms) e).1
  names_case m ms xs false e r = let p = both_true (is_name m) (are_names ms) e in both_of p.0 (r p.1)

  pub names_without : (ns : List (List ℕ)) → are_names ns ≡ true → are_names (without_name n ns) ≡ true
  unfolding without_name
  names_without [] e = e
  names_without (m ∷ ms) e = names_case m ms (without_name n ms) (same n m) e (names_without ms)

  above_case : (a m : List ℕ) (ms xs : List (List ℕ)) (t : Bool) → names_above a (m ∷ ms) ≡ true
      → (names_above m ms ≡ true → names_above m xs ≡ true) → names_above a (pick t ms (m ∷ xs)) ≡ true
  unfolding names_above
  above_case a m ms xs true e r = let p = both_true (comes_before a m) (names_above m ms) e in names_lower a m ms p.0 p.1
  above_case a m ms xs false e r = let p = both_true (comes_before a m) (names_above m ms) e in both_of p.0 (r p.1)

  pub above_without : (a : List ℕ) (ns : List (List ℕ)) → names_above a ns ≡ true → names_above a (without_name n ns) ≡ true
  unfolding without_name
  above_without a [] e = e
  above_without a (m ∷ ms) e = above_case a m ms (without_name n ms) (same n m) e (above_without m ms)

  -- the others stay
  stay_case : (x m : List ℕ) (ms xs : List (List ℕ)) (t u : Bool) → same n m ≡ t → same x m ≡ u → same n x ≡ false
      → pick u true (is_among x ms) ≡ true → (is_among x ms ≡ true → is_among x xs ≡ true) → is_among x (pick t ms (m ∷ xs)) ≡ true
  stay_case x m ms xs true true e f d h r = absurd (never (rw (same_true n m e) (same_swap x m true f)) d)
  stay_case x m ms xs true false e f d h r = h
  stay_case x m ms xs false true e f d h r = among_first x m xs f
  stay_case x m ms xs false false e f d h r = among_later x m xs (r h)

  pub among_without : (x : List ℕ) → same n x ≡ false → (ns : List (List ℕ)) → is_among x ns ≡ true → is_among x (without_name n ns) ≡ true
  unfolding without_name is_among
  among_without x d [] e = e
  among_without x d (m ∷ ms) e = stay_case x m ms (without_name n ms) (same n m) (same x m) refl refl d e (among_without x d ms)

  length_case : (m : List ℕ) (ms xs : List (List ℕ)) (t : Bool) → length xs ≤ length ms → length (pick t ms (m ∷ xs)) ≤ suc (length ms)
  length_case m ms xs true h = omega arith
  length_case m ms xs false h = omega arith

  pub length_without : (ns : List (List ℕ)) → length (without_name n ns) ≤ length ns
  unfolding without_name
  length_without [] = omega arith
  length_without (m ∷ ms) = length_case m ms (without_name n ms) (same n m) (length_without ms)

  unknown_case : (m : List ℕ) (ms xs : List (List ℕ)) (t : Bool) → pick t true (is_among n ms) ≡ false → (is_among n ms ≡ false → xs ≡ ms)
      → pick t ms (m ∷ xs) ≡ m ∷ ms
  unknown_case m ms xs true h r = absurd (never refl h)
  unknown_case m ms xs false h r = ap (λ (l : List (List ℕ)). m ∷ l) (r h)

  pub without_unknown : (ns : List (List ℕ)) → is_among n ns ≡ false → without_name n ns ≡ ns
  unfolding without_name is_among
  without_unknown [] e = refl
  without_unknown (m ∷ ms) e = unknown_case m ms (without_name n ms) (same n m) e (without_unknown ms)

  cut_case : (m : List ℕ) (ms : List (List ℕ)) (t : Bool) → same n m ≡ t → pick t true (is_among n ms) ≡ true
      → (is_among n ms ≡ true → without_name n ms ≡ take (place_of_name n ms) ms ++ drop (suc (place_of_name n ms)) ms)
      → without_name n (m ∷ ms) ≡ take (place_of_name n (m ∷ ms)) (m ∷ ms) ++ drop (suc (place_of_name n (m ∷ ms))) (m ∷ ms)
  unfolding without_name place_of_name
  cut_case m ms true e h r = rw e
  cut_case m ms false e h r =
      let k : 1 + place_of_name n ms ≡ suc (place_of_name n ms) = omega arith in rw (e, k) (ap (λ (l : List (List ℕ)). m ∷ l) (r h))

  pub without_cut : (ns : List (List ℕ)) → is_among n ns ≡ true → without_name n ns ≡ take (place_of_name n ns) ns ++ drop (suc (place_of_name n ns)) ns
  unfolding is_among
  without_cut [] e = absurd (never refl (sym e))
  without_cut (m ∷ ms) e = cut_case m ms (same n m) refl e (without_cut ms)
