-- The laws of a map: what put and remove do to find, and that they keep the entries rising. Assumes nothing.
use mathlib.Core.Path.{◌≡◌, refl, sym, ap, ap₂, ◌∙◌}
use mathlib.Core.Bool.{Bool, true, false, true≢false}
use mathlib.Core.List.{List, [], ◌∷◌, ◌++◌}
use Prim.Native.Nat.{ℕ}
use Rattle.octets.specs.Pick.{pick, both}
use Rattle.std.proofs.Common.{is_none, Option, Some, None}
use Rattle.std.specs.Option.{option_or}
use Rattle.octets.specs.Compare.{same, comes_before}
use Rattle.octets.proofs.Laws.{same_true, same_refl, before_trans, before_differs}
use Rattle.keys.specs.Entries.{Entry, entry, all_above, rising, lookup, has, insert, without}
use Rattle.keys.proofs.Every.{Keys, keys_map}
use Rattle.keys.proofs.Sorted.{both_left, both_right, rising_tail}
use Rattle.keys.proofs.Sides.{Sides, below, equal, above, sides}

pub lookup_append : (k : List ℕ) (xs ys : List Entry) → lookup k (xs ++ ys) ≡ option_or (lookup k xs) (lookup k ys)
unfolding lookup
lookup_append k [] ys = refl
lookup_append k (x ∷ xs) ys = go (same k x.key) (lookup_append k xs ys)
  where
    go : (t : Bool) → lookup k (xs ++ ys) ≡ option_or (lookup k xs) (lookup k ys)
        → pick t (Some x.value) (lookup k (xs ++ ys)) ≡ option_or (pick t (Some x.value) (lookup k xs)) (lookup k ys)
    go true ih = refl
    go false ih = ih

pub lookup_none : (k : List ℕ) (es : List Entry) → Keys (λ (x : List ℕ). same k x ≡ false) es → lookup k es ≡ None
unfolding lookup
lookup_none k [] h = refl
lookup_none k (e ∷ es) h = rw h.0 (lookup_none k es h.1)

pub or_none_lem : {A : Type 0} (o : Option A) → option_or o None ≡ o
or_none_lem None = refl
or_none_lem (Some a) = refl

-- put and remove, by where the key stands to the first
module _ (k : List ℕ) (v : ℕ) (e : Entry) (es : List Entry) where
  pub insert_same : same k e.key ≡ true → insert k v (e ∷ es) ≡ entry k v ∷ es
  unfolding insert
  insert_same h = rw h

  pub insert_before : same k e.key ≡ false → comes_before k e.key ≡ true → insert k v (e ∷ es) ≡ entry k v ∷ (e ∷ es)
  unfolding insert
  insert_before h b = rw (h, b)

  pub insert_after : same k e.key ≡ false → comes_before k e.key ≡ false → insert k v (e ∷ es) ≡ e ∷ insert k v es
  unfolding insert
  insert_after h b = rw (h, b)

module _ (k : List ℕ) (e : Entry) (es : List Entry) where
  pub without_same : same k e.key ≡ true → without k (e ∷ es) ≡ es
  unfolding without
  without_same h = rw h

  pub without_other : same k e.key ≡ false → without k (e ∷ es) ≡ e ∷ without k es
  unfolding without
  without_other h = rw h

  pub lookup_same : same k e.key ≡ true → lookup k (e ∷ es) ≡ Some e.value
  unfolding lookup
  lookup_same h = rw h

  pub lookup_other : same k e.key ≡ false → lookup k (e ∷ es) ≡ lookup k es
  unfolding lookup
  lookup_other h = rw h

-- find after put
pub lookup_insert : (k : List ℕ) (v : ℕ) (es : List Entry) → lookup k (insert k v es) ≡ Some v
unfolding insert lookup
lookup_insert k v [] = rw (same_refl k)
lookup_insert k v (e ∷ es) = go (sides k e.key) (lookup_insert k v es)
  where
    go : Sides k e.key → lookup k (insert k v es) ≡ Some v → lookup k (insert k v (e ∷ es)) ≡ Some v
    go (below b a n) ih = ap (lookup k) (insert_before k v e es n b) ∙ lookup_same k (entry k v) (e ∷ es) (same_refl k)
    go (equal q b a n) ih = ap (lookup k) (insert_same k v e es n) ∙ lookup_same k (entry k v) es (same_refl k)
    go (above b a n) ih = ap (lookup k) (insert_after k v e es n b) ∙ lookup_other k e (insert k v es) n ∙ ih

pub lookup_insert_other : (j k : List ℕ) (v : ℕ) (es : List Entry) → same j k ≡ false → lookup j (insert k v es) ≡ lookup j es
unfolding insert lookup
lookup_insert_other j k v [] h = rw h
lookup_insert_other j k v (e ∷ es) h = go (sides k e.key) (lookup_insert_other j k v es h)
  where
    go : Sides k e.key → lookup j (insert k v es) ≡ lookup j es → lookup j (insert k v (e ∷ es)) ≡ lookup j (e ∷ es)
    go (below b a n) ih = ap (lookup j) (insert_before k v e es n b) ∙ lookup_other j (entry k v) (e ∷ es) h
    go (equal q b a n) ih =
        ap (lookup j) (insert_same k v e es n) ∙ lookup_other j (entry k v) es h ∙ sym (lookup_other j e es (ap (same j) (sym q) ∙ h))
    go (above b a n) ih =
        ap (lookup j) (insert_after k v e es n b) ∙ ap (pick (same j e.key) (Some e.value)) ih

-- above a key it is not found
above_trans : (a b : List ℕ) (es : List Entry) → comes_before a b ≡ true → all_above b es ≡ true → all_above a es ≡ true
unfolding all_above
above_trans a b [] h r = refl
above_trans a b (e ∷ es) h r =
    ap₂ both (before_trans a b e.key h (both_left (comes_before b e.key) _ r)) (both_right (comes_before b e.key) _ r)

pub above_keys : (k : List ℕ) (es : List Entry) → all_above k es ≡ true → Keys (λ (x : List ℕ). comes_before k x ≡ true) es
unfolding all_above
above_keys k [] h = tt
above_keys k (e ∷ es) h =
    let p = both_left (comes_before k e.key) (all_above e.key es) h in
    (p, above_keys k es (above_trans k e.key es p (both_right (comes_before k e.key) (all_above e.key es) h)))

pub above_absent : (k : List ℕ) (es : List Entry) → all_above k es ≡ true → lookup k es ≡ None
above_absent k es h =
    lookup_none k es (keys_map (λ (x : List ℕ). comes_before k x ≡ true) (λ (x : List ℕ). same k x ≡ false) (before_differs k) es (above_keys k es h))

-- find after remove
pub lookup_without : (k : List ℕ) (es : List Entry) → rising es ≡ true → lookup k (without k es) ≡ None
unfolding rising without lookup
lookup_without k [] r = refl
lookup_without k (e ∷ es) r = go (same k e.key) refl (lookup_without k es (rising_tail e.key es r))
  where
    go : (t : Bool) → same k e.key ≡ t → lookup k (without k es) ≡ None → lookup k (pick t es (e ∷ without k es)) ≡ None
    go true n ih = above_absent k es (ap (λ (z : List ℕ). all_above z es) (same_true k e.key n) ∙ r)
    go false n ih = lookup_other k e (without k es) n ∙ ih

pub lookup_without_other : (j k : List ℕ) (es : List Entry) → same j k ≡ false → lookup j (without k es) ≡ lookup j es
unfolding without lookup
lookup_without_other j k [] h = refl
lookup_without_other j k (e ∷ es) h = go (same k e.key) refl (lookup_without_other j k es h)
  where
    go : (t : Bool) → same k e.key ≡ t → lookup j (without k es) ≡ lookup j es → lookup j (pick t es (e ∷ without k es)) ≡ lookup j (e ∷ es)
    go true n ih = sym (lookup_other j e es (ap (same j) (sym (same_true k e.key n)) ∙ h))
    go false n ih = ap (pick (same j e.key) (Some e.value)) ih

-- rising stays
above_insert : (a k : List ℕ) (v : ℕ) (es : List Entry) → comes_before a k ≡ true → all_above a es ≡ true → all_above a (insert k v es) ≡ true
unfolding all_above insert
above_insert a k v [] h r = ap₂ both h refl
above_insert a k v (e ∷ es) h r =
    let q = both_right (comes_before a e.key) (all_above e.key es) r in
    go (sides k e.key) (both_left (comes_before a e.key) (all_above e.key es) r) q (λ b. above_insert e.key k v es b q)
  where
    go : Sides k e.key → comes_before a e.key ≡ true → all_above e.key es ≡ true
        → (comes_before e.key k ≡ true → all_above e.key (insert k v es) ≡ true) → all_above a (insert k v (e ∷ es)) ≡ true
    go (below b c n) p q ih = ap (all_above a) (insert_before k v e es n b) ∙ ap₂ both h (ap₂ both b q)
    go (equal u b c n) p q ih = ap (all_above a) (insert_same k v e es n) ∙ ap₂ both h (ap (λ (z : List ℕ). all_above z es) u ∙ q)
    go (above b c n) p q ih = ap (all_above a) (insert_after k v e es n b) ∙ ap₂ both p (ih c)

pub rising_insert : (k : List ℕ) (v : ℕ) (es : List Entry) → rising es ≡ true → rising (insert k v es) ≡ true
unfolding rising insert all_above
rising_insert k v [] r = refl
rising_insert k v (e ∷ es) r = go (sides k e.key)
  where
    go : Sides k e.key → rising (insert k v (e ∷ es)) ≡ true
    go (below b c n) = ap rising (insert_before k v e es n b) ∙ ap₂ both b r
    go (equal u b c n) = ap rising (insert_same k v e es n) ∙ ap (λ (z : List ℕ). all_above z es) u ∙ r
    go (above b c n) = ap rising (insert_after k v e es n b) ∙ above_insert e.key k v es c r

above_without : (a k : List ℕ) (es : List Entry) → all_above a es ≡ true → all_above a (without k es) ≡ true
unfolding all_above without
above_without a k [] r = refl
above_without a k (e ∷ es) r =
    let p = both_left (comes_before a e.key) (all_above e.key es) r in
    let q = both_right (comes_before a e.key) (all_above e.key es) r in
    go (same k e.key) (above_trans a e.key es p q) (ap₂ both p (above_without e.key k es q))
  where
    go : (t : Bool) → all_above a es ≡ true → all_above a (e ∷ without k es) ≡ true → all_above a (pick t es (e ∷ without k es)) ≡ true
    go true x y = x
    go false x y = y

pub rising_without : (k : List ℕ) (es : List Entry) → rising es ≡ true → rising (without k es) ≡ true
unfolding rising without
rising_without k [] r = refl
rising_without k (e ∷ es) r = go (same k e.key) (rising_tail e.key es r) (above_without e.key k es r)
  where
    go : (t : Bool) → rising es ≡ true → all_above e.key (without k es) ≡ true → rising (pick t es (e ∷ without k es)) ≡ true
    go true x y = x
    go false x y = y

-- has
abbrev pub held_in : Option ℕ → Bool
held_in o = pick (is_none o) false true

pub has_same : (k : List ℕ) (e : Entry) (es : List Entry) → same k e.key ≡ true → has k (e ∷ es) ≡ true
has_same k e es h = ap held_in (lookup_same k e es h)

pub has_other : (k : List ℕ) (e : Entry) (es : List Entry) → same k e.key ≡ false → has k (e ∷ es) ≡ has k es
has_other k e es h = ap held_in (lookup_other k e es h)

pub above_has : (k : List ℕ) (es : List Entry) → all_above k es ≡ true → has k es ≡ false
above_has k es h = ap held_in (above_absent k es h)

pub has_none : (k : List ℕ) (es : List Entry) → has k es ≡ false → lookup k es ≡ None
has_none k es h = go (lookup k es) h
  where
    go : (o : Option ℕ) → held_in o ≡ false → o ≡ None
    go None h = refl
    go (Some v) h = absurd (true≢false h)

pub has_some : (k : List ℕ) (es : List Entry) → has k es ≡ true → (v : ℕ) × (lookup k es ≡ Some v)
has_some k es h = go (lookup k es) h
  where
    go : (o : Option ℕ) → held_in o ≡ true → (v : ℕ) × (o ≡ Some v)
    go None h = absurd (true≢false (sym h))
    go (Some v) h = (v, refl)
