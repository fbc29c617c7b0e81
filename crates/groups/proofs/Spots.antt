-- Where a name stands among rising names, or would be put. Assumes nothing.
use Rattle.std.proofs.Common.{Some, None}
use mathlib.Core.Path.{◌≡◌, refl, sym, ap, ◌∙◌, subst}
use mathlib.Core.Bool.{Bool, true, false}
use mathlib.Core.List.{List, [], ◌∷◌, ◌++◌}
use Prim.Native.Nat.{ℕ, suc, ◌+◌, ◌-◌, ◌≤◌, ◌<◌}
use native.Mathlib.Omega.{arith}
use lib.Dec.{eqb, ltb}
use lib.ListN.{length, get_or, take, drop, get_or-eq_default}
use borrow.Author.Tests.{ltb-true, ltb-false, eqb-true, eqb-false}
use Rattle.octets.specs.Pick.{pick}
use Rattle.octets.specs.Compare.{same, is_less, comes_before}
use Rattle.octets.proofs.Laws.{both_true, same_refl, same_true, both_of, never}
use Rattle.groups.specs.declared.Spot.TheVariants.{Known, New}
use Rattle.groups.specs.Group.{Pending, names_above, is_among, is_pending, are_pending}
use Rattle.groups.specs.Bytes.{place_of_name}
use Rattle.groups.specs.Step.{with_name, pending_of}
use Rattle.groups.specs.Answer.{spot_from, place_in}
use Rattle.groups.proofs.Names.{after_differs, above_get_d, place_get_d, placed}
use Rattle.groups.proofs.Entries.{entry}
use Rattle.groups.proofs.Consumers.{by_name, greater_before, equal_same, among_first, among_later, among_rest, not_among, with_less, with_greater}

-- a name that is there
pub record KnownSpot (j : ℕ) (n : List ℕ) (ns : List (List ℕ)) (k : ℕ) : Type 0 where
  pub place : k ≡ j + place_of_name n ns
  pub among : is_among n ns ≡ true

pub known_spot : (j : ℕ) (n : List ℕ) (ns : List (List ℕ)) (k : ℕ) → spot_from j n ns ≡ Known k → KnownSpot j n ns k
unfolding spot_from place_of_name
known_spot j n [] k e = absurd (let z : ◌≡◌ {A = ℕ} 0 1 = cc in omega arith)
known_spot j n (m ∷ ms) k e =
    by_name n m
    (λ o. absurd (let f : New j ≡ Known k = rw o at e in let z : ◌≡◌ {A = ℕ} 0 1 = cc in omega arith))
    (λ o.
    let f : Known j ≡ Known k = rw o at e in
    let q : j ≡ k = cc in
    record { place = rw (equal_same n m o) (omega arith); among = among_first n m ms (equal_same n m o) })
    (λ o.
    let f : spot_from (j + 1) n ms ≡ Known k = rw o at e in
    let r = known_spot (j + 1) n ms k f in
    record { place = rw (after_differs m n (greater_before n m o)) (omega (arith, r.place)); among = among_later n m ms r.among })

-- a name that would be put in
pub record NewSpot (j : ℕ) (n : List ℕ) (ns : List (List ℕ)) (k : ℕ) : Type 0 where
  pub from : j ≤ k
  pub within : k - j ≤ length ns
  pub put_in : with_name n ns ≡ take (k - j) ns ++ (n ∷ drop (k - j) ns)
  pub unknown : is_among n ns ≡ false

with_nil : (n : List ℕ) → with_name n [] ≡ n ∷ []
unfolding with_name
with_nil n = refl

pub new_spot : (a : List ℕ) (j : ℕ) (n : List ℕ) (ns : List (List ℕ)) (k : ℕ) → names_above a ns ≡ true → spot_from j n ns ≡ New k → NewSpot j n ns k
unfolding spot_from names_above
new_spot a j n [] k r e =
    let q : j ≡ k = cc in
    let z : k - j ≡ 0 = omega arith in
    record { from = omega arith; within = omega arith; put_in = rw z (with_nil n); unknown = unfold is_among in refl }
new_spot a j n (m ∷ ms) k r e =
    let p = both_true (comes_before a m) (names_above m ms) r in
    by_name n m
    (λ o.
    let f : New j ≡ New k = rw o at e in
    let q : j ≡ k = cc in
    let z : k - j ≡ 0 = omega arith in
    record {
      from = omega arith;
      within = omega arith;
      put_in = rw z (with_less n m ms o);
      unknown = not_among n (m ∷ ms) (both_of (ap is_less o) p.1);
    })
    (λ o. absurd (let f : Known j ≡ New k = rw o at e in let z : ◌≡◌ {A = ℕ} 0 1 = cc in omega arith))
    (λ o.
    let f : spot_from (j + 1) n ms ≡ New k = rw o at e in
    let x = new_spot m (j + 1) n ms k p.1 f in
    let h = x.from in
    let z : k - j ≡ suc (k - (j + 1)) = omega arith in
    record {
      from = omega arith;
      within = omega (arith, x.within);
      put_in = rw z (with_greater n m ms o ∙ ap (λ (l : List (List ℕ)). m ∷ l) x.put_in);
      unknown = among_rest n m ms (after_differs m n (greater_before n m o)) ∙ x.unknown;
    })

-- find consumer
pub place_known : (n : List ℕ) (ns : List (List ℕ)) (k : ℕ) → spot_from 0 n ns ≡ Known k → place_in n ns ≡ Some k
unfolding place_in
place_known n ns k e =
    let x = known_spot 0 n ns k e in
    let q : place_of_name n ns ≡ k = omega (arith, x.place) in
    rw (x.among, q)

pub place_new : (a : List ℕ) (n : List ℕ) (ns : List (List ℕ)) (k : ℕ) → names_above a ns ≡ true → spot_from 0 n ns ≡ New k → place_in n ns ≡ None
unfolding place_in
place_new a n ns k r e = rw (new_spot a 0 n ns k r e).unknown

-- one name, one place: two places hold the same name only where they are one
module _ (cs : List (List ℕ)) (rising : names_above [] cs ≡ true) where
  place_case : (x : ℕ) (t : Bool) → ltb x (length cs) ≡ t → is_among (get_or cs x []) cs ≡ true → place_of_name (get_or cs x []) cs ≡ x
  place_case x true e h = place_get_d [] cs x rising (ltb-true x (length cs) e)
  place_case x false e h =
      absurd (never h (ap (λ (n : List ℕ). is_among n cs) (get_or-eq_default cs [] (ltb-false x (length cs) e)) ∙ not_among [] cs rising))

  pub place_among : (x : ℕ) → is_among (get_or cs x []) cs ≡ true → place_of_name (get_or cs x []) cs ≡ x
  place_among x h = place_case x (ltb x (length cs)) refl h

  other_case : (k x : ℕ) → k < length cs → (x ≡ k → ⊥) → (t u : Bool) → ltb x (length cs) ≡ t → same (get_or cs k []) (get_or cs x []) ≡ u → u ≡ false
  other_case k x h d t false e f = refl
  other_case k x h d true true e f =
      absurd (d
      (sym (place_get_d [] cs x rising (ltb-true x (length cs) e))
      ∙ ap (λ (n : List ℕ). place_of_name n cs) (sym (same_true (get_or cs k []) (get_or cs x []) f))
      ∙ place_get_d [] cs k rising h))
  other_case k x h d false true e f =
      let z : get_or cs x [] ≡ [] = get_or-eq_default cs [] (ltb-false x (length cs) e) in
      absurd (never (subst (λ (n : List ℕ). same (get_or cs k []) n ≡ true) z f) (after_differs [] (get_or cs k []) (above_get_d [] cs k rising h)))

  same_case : (k x : ℕ) → k < length cs → (t : Bool) → eqb x k ≡ t → same (get_or cs k []) (get_or cs x []) ≡ t
  same_case k x h true e = rw (eqb-true x k e) (same_refl (get_or cs k []))
  same_case k x h false e = other_case k x h (eqb-false x k e) (ltb x (length cs)) (same (get_or cs k []) (get_or cs x [])) refl refl

  pub same_place : (k x : ℕ) → k < length cs → same (get_or cs k []) (get_or cs x []) ≡ eqb x k
  same_place k x h = same_case k x h (eqb x k) refl

-- an unknown consumer has no entries
none_case : (c : List ℕ) (cs : List (List ℕ)) (p : Pending) (xs : List Pending) (t : Bool) → same c p.consumer ≡ t → is_among c cs ≡ false
    → is_among p.consumer cs ≡ true → xs ≡ [] → pick t (p ∷ xs) xs ≡ []
none_case c cs p xs true d e h z = absurd (never (ap (λ (n : List ℕ). is_among n cs) (same_true c p.consumer d) ∙ h) e)
none_case c cs p xs false d e h z = z

pub none_of : (c : List ℕ) (cs : List (List ℕ)) (ps : List Pending) → is_among c cs ≡ false → are_pending cs ps ≡ true → pending_of c ps ≡ []
unfolding pending_of are_pending
none_of c cs [] e h = refl
none_of c cs (p ∷ ps) e h =
    let q = both_true (is_pending cs p) (are_pending cs ps) h in
    none_case c cs p (pending_of c ps) (same c p.consumer) refl e (entry cs p q.0).among (none_of c cs ps e q.1)

-- what find consumer says
pub record FoundName (n : List ℕ) (ns : List (List ℕ)) (k : ℕ) : Type 0 where
  pub among : is_among n ns ≡ true
  pub place : k ≡ place_of_name n ns
  pub within : k < length ns
  pub stands : get_or ns k [] ≡ n

found_case : (n : List ℕ) (ns : List (List ℕ)) (k : ℕ) (t : Bool) → is_among n ns ≡ t → pick t (Some (place_of_name n ns)) None ≡ Some k → FoundName n ns k
found_case n ns k false e f = absurd (let z : ◌≡◌ {A = ℕ} 0 1 = cc in omega arith)
found_case n ns k true e f =
    let q : place_of_name n ns ≡ k = cc in
    let p = placed n ns e in
    record { among = e; place = sym q; within = omega (arith, p.within); stands = ap (λ (i : ℕ). get_or ns i []) (sym q) ∙ p.stands }

pub found_name : (n : List ℕ) (ns : List (List ℕ)) (k : ℕ) → place_in n ns ≡ Some k → FoundName n ns k
unfolding place_in
found_name n ns k e = found_case n ns k (is_among n ns) refl e

absent_case : (n : List ℕ) (ns : List (List ℕ)) (t : Bool) → pick t (Some (place_of_name n ns)) None ≡ None → t ≡ false
absent_case n ns true f = absurd (let z : ◌≡◌ {A = ℕ} 0 1 = cc in omega arith)
absent_case n ns false f = refl

pub absent_name : (n : List ℕ) (ns : List (List ℕ)) → place_in n ns ≡ None → is_among n ns ≡ false
unfolding place_in
absent_name n ns e = absent_case n ns (is_among n ns) e
