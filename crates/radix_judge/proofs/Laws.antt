-- What callers cite: the judgement says exactly whether a record holds entries, and where it does, gathering finds them. Assumes nothing.
use mathlib.Core.Bool.{Bool, true, false, false≢true}
use mathlib.Core.Path.{◌≡◌, refl, sym, ap, ◌∙◌, subst⁻¹}
use mathlib.Core.List.{List, []}
use Rattle.std.proofs.Common.{Option, Some, None}
use Prim.Native.Nat.{ℕ, zero, suc, ◌+◌, ◌≤◌, ◌<◌}
use native.Mathlib.Omega.{arith}
use borrow.Author.Tests.{eqb-true, eqb-false, ne_eqb, ltb-true, ltb-false}
use lib.Dec.{ltb, eqb}
use lib.ListN.{length, get_or, set, length-set, length-replicate, get_or-replicate, get_or-eq_default}
use lib.Seq.{get_or-set_same, get_or-set_other}
use Rattle.octets.specs.Pick.{pick, both}
use Rattle.octets.specs.Bytes.{zeros}
use Rattle.octets.proofs.Laws.{both_true, both_of, never, by_order}
use Rattle.keys.specs.Entries.{Entry}
use Rattle.keys.specs.Listing.{IsSound}
use Rattle.radix.specs.Shape.{Shape}
use Rattle.radix.specs.Canon.{canonical}
use Rattle.radix.specs.Record.{Nodes, nodes_of, tree_of, is_free, is_tidy, is_place, is_root, are_clean, marks_of, are_fit, is_placed, entries_of, entries_is}
use Rattle.radix.specs.Gathering.{gathered}
use Rattle.radix.specs.declared.Index.{Index}
use Rattle.radix.proofs.Laws.{holds, is_gathered, shape_gathered, shape_canonical}
use Rattle.radix_judge.specs.Visit.{Seen, visit, are_free, rest_free, is_sound}
use Rattle.radix_judge.proofs.Walks.{AllTidy, Walked, walked, visits, marks_stay, marks_long}

-- every place: free without a mark, in use with one
module _ (x : Nodes) (m : List ℕ) where
  place_of_lem : (p : ℕ) → pick (eqb (get_or m p 0) 0) (is_free x p) true ≡ true → AllTidy x m → is_place x m p ≡ true
  place_of_lem p f tidy = go (eqb (get_or m p 0) 0) refl f
    where
      go : (t : Bool) → eqb (get_or m p 0) 0 ≡ t → pick t (is_free x p) true ≡ true → pick t (is_free x p) (is_tidy x p) ≡ true
      go true e h = h
      go false e h = tidy p (eqb-false (get_or m p 0) 0 e)

  clean_of : (p n : ℕ) → are_free x m p n ≡ true → AllTidy x m → are_clean x m p n ≡ true
  unfolding are_free are_clean
  clean_of p zero f tidy = refl
  clean_of p (suc n) f tidy =
      let a = both_true (pick (eqb (get_or m p 0) 0) (is_free x p) true) _ f in
      both_of (place_of_lem p a.0 tidy) (clean_of (p + 1) n a.1 tidy)

  unmarked : (p : ℕ) (t : Bool) → pick t (is_free x p) (is_tidy x p) ≡ true → pick t (is_free x p) true ≡ true
  unmarked p true h = h
  unmarked p false h = refl

  free_of_lem : (p n : ℕ) → are_clean x m p n ≡ true → are_free x m p n ≡ true
  unfolding are_free are_clean
  free_of_lem p zero c = refl
  free_of_lem p (suc n) c =
      let a = both_true (is_place x m p) _ c in
      both_of (unmarked p (eqb (get_or m p 0) 0) a.0) (free_of_lem (p + 1) n a.1)

  clean_at : (q p n : ℕ) → are_clean x m p n ≡ true → p ≤ q → q < p + n → is_place x m q ≡ true
  unfolding are_clean
  clean_at q p zero c h k = absurd (omega arith)
  clean_at q p (suc n) c h k =
      let a = both_true (is_place x m p) _ c in
      go (eqb q p) refl a.0 (λ l. clean_at q (p + 1) n a.1 l (omega arith))
    where
      go : (t : Bool) → eqb q p ≡ t → is_place x m p ≡ true → (p + 1 ≤ q → is_place x m q ≡ true) → is_place x m q ≡ true
      go true e i j = subst⁻¹ (λ (o : ℕ). is_place x m o ≡ true) (eqb-true q p e) i
      go false e i j = let z = eqb-false q p e in j (omega arith)

  tidy_in : length m ≡ 256 → are_clean x m 0 256 ≡ true → AllTidy x m
  tidy_in l c q z = go (ltb q 256) refl
    where
      go : (t : Bool) → ltb q 256 ≡ t → is_tidy x q ≡ true
      go true e = rw (ne_eqb (get_or m q 0) 0 z) at (clean_at q 0 256 c (omega arith) (omega (arith, ltb-true q 256 e)))
      go false e = absurd (z (get_or-eq_default m 0 (omega (arith, l, ltb-false q 256 e))))

module _ (x : Index) (size : length x.label ≡ 4096) where
  abbrev start : List ℕ
  start = set (zeros 256) x.root 1

  abbrev walk : Option Seen
  walk = visit 256 (nodes_of x) true 0 (get_or x.child x.root 0) 0 0 start

  start_long : length start ≡ 256
  start_long = length-set (zeros 256) x.root 1 ∙ length-replicate {A = ℕ} 256 0

  root_marked : x.root < 256 → get_or start x.root 0 ≡ 0 → ⊥
  root_marked h z = let e = get_or-set_same (zeros 256) x.root 1 0 (omega (arith, length-replicate {A = ℕ} 256 0)) in omega (arith, sym e ∙ z)

  tidy_all : (r : Seen) → Walked 256 (nodes_of x) true 0 (get_or x.child x.root 0) 0 0 start r → is_tidy (nodes_of x) x.root ≡ true → AllTidy (nodes_of x) r.marks
  tidy_all r w t q z = go (eqb q x.root) refl
    where
      none_marked : get_or (zeros 256) q 0 ≡ 0
      none_marked =
          by_order q 256 (get_or-replicate 256 q 0 0) (λ h. get_or-eq_default (zeros 256) 0 {n = q} (omega (arith, length-replicate {A = ℕ} 256 0)))
          (λ h. get_or-eq_default (zeros 256) 0 {n = q} (omega (arith, length-replicate {A = ℕ} 256 0)))

      go : (b : Bool) → eqb q x.root ≡ b → is_tidy (nodes_of x) q ≡ true
      go true e = ap (is_tidy (nodes_of x)) (eqb-true q x.root e) ∙ t
      go false e = w.tidy q (get_or-set_other (zeros 256) x.root q 1 0 (eqb-false q x.root e) ∙ none_marked) z

  abbrev Held : Type 0
  Held = (fs : List Entry) × (gathered [] (tree_of x) [] ≡ Some fs) × (entries_of x ≡ Some fs)

  held_by_lem : (o : Option Seen) → walk ≡ o → ltb x.root 256 ≡ true → is_root (nodes_of x) x.root ≡ true → is_tidy (nodes_of x) x.root ≡ true → rest_free (nodes_of x) o ≡ true → Held
  unfolding is_placed canonical
  held_by_lem None q a b c f = absurd (false≢true f)
  held_by_lem (Some r) q a b c f =
      let w = walked (nodes_of x) size 256 true 0 (get_or x.child x.root 0) 0 0 start r q in
      let rows = w.rows [] [] refl refl in
      let placed : is_placed x ≡ true = both_of a (ap (are_fit x) w.marked ∙ both_of b (clean_of (nodes_of x) r.marks 0 256 f (tidy_all r w c))) in
      (rows.0, rows.1, entries_is x ∙ rw placed (sym (is_gathered (tree_of x) rows.0 w.kept rows.1)))

  held : is_sound x ≡ true → Held
  unfolding is_sound
  held e =
      let a = both_true (ltb x.root 256) _ e in
      let b = both_true (both (is_root (nodes_of x) x.root) (is_tidy (nodes_of x) x.root)) _ a.1 in
      let c = both_true (is_root (nodes_of x) x.root) (is_tidy (nodes_of x) x.root) b.0 in
      held_by_lem walk refl a.0 c.0 c.1 b.1

  sound_by_lem : (o : Option (List ℕ)) → marks_of x ≡ o → ltb x.root 256 ≡ true → are_fit x o ≡ true → (es : List Entry) → canonical (tree_of x) ≡ true → gathered [] (tree_of x) [] ≡ Some es → is_sound x ≡ true
  unfolding is_sound canonical
  sound_by_lem None q a f es k g = absurd (false≢true f)
  sound_by_lem (Some m) q a f es k g =
      let b = both_true (is_root (nodes_of x) x.root) (are_clean (nodes_of x) m 0 256) f in
      let l = marks_long x.child x.next 256 (get_or x.child x.root 0) start m q in
      let tidy = tidy_in (nodes_of x) m (l ∙ start_long) b.1 in
      let h : x.root < 256 = ltb-true x.root 256 a in
      let v = visits (nodes_of x) size 256 true 0 (get_or x.child x.root 0) 0 0 start m [] [] es start_long (omega arith) refl refl q k g tidy in
      both_of a (both_of (both_of b.0 (tidy x.root (marks_stay x.child x.next 256 (get_or x.child x.root 0) start m x.root q (root_marked h)))) (ap (rest_free (nodes_of x)) v ∙ free_of_lem (nodes_of x) m 0 256 b.1))

  sound_of : (es : List Entry) → entries_of x ≡ Some es → is_sound x ≡ true
  unfolding is_placed
  sound_of es e =
      let h = holds x es e in
      let a = both_true (ltb x.root 256) (are_fit x (marks_of x)) h.placed in
      sound_by_lem (marks_of x) refl a.0 a.1 es (ap canonical h.tree ∙ shape_canonical es h.map) (ap (λ (t : Shape). gathered [] t []) h.tree ∙ shape_gathered es h.map)

  pub not_sound : is_sound x ≡ false → None ≡ entries_of x
  not_sound e = go (entries_of x) refl
    where
      go : (o : Option (List Entry)) → entries_of x ≡ o → None ≡ entries_of x
      go None q = sym q
      go (Some es) q = absurd (never (sound_of es q) e)

  pub sound_gathered : is_sound x ≡ true → gathered [] (tree_of x) [] ≡ entries_of x
  sound_gathered e = let h = held e in h.1 ∙ sym h.2

  pub sound_holds : is_sound x ≡ true → IsSound (entries_of x)
  sound_holds e = subst⁻¹ IsSound (held e).2 tt
