-- Put, remove, find and the first key at or above, by the key's place among the rows of a table. Assumes nothing.
use mathlib.Core.Path.{◌≡◌, refl, sym, ap, ap₂, ◌∙◌}
use mathlib.Core.Bool.{Bool, true, false, true≢false}
use mathlib.Core.List.{List, [], ◌∷◌, ◌++◌}
use Rattle.std.proofs.Common.{Option, Some, None}
use Prim.Native.Nat.{ℕ, suc, ◌≤◌, ◌<◌}
use native.Mathlib.Omega.{arith}
use lib.ListN.{length, take, drop, get_or, length-append, length-take, length-drop, take-append-drop}
use lib.Seq.{drop-cons}
use Rattle.octets.proofs.Options.{head_of}
use Rattle.octets.specs.Pick.{pick, both}
use Rattle.octets.specs.Compare.{same, comes_before}
use Rattle.keys.specs.Entries.{Entry, entry, all_above, rising, lookup, has, insert, without, first_from}
use Rattle.keys.specs.Rank.{rank}
use Rattle.keys.proofs.Sorted.{rising_tail}
use Rattle.keys.proofs.Sides.{is_false, Sides, below, equal, above, sides}
use Rattle.keys.proofs.Maps.{held_in, insert_same, insert_before, insert_after, without_same, without_other, lookup_same, lookup_other, has_same, has_other, above_absent, above_has}

module _ (k : List ℕ) (e : Entry) (es : List Entry) where
  pub rank_before : comes_before e.key k ≡ true → rank k (e ∷ es) ≡ suc (rank k es)
  unfolding rank
  rank_before h = rw h

  pub rank_not : comes_before e.key k ≡ false → rank k (e ∷ es) ≡ 0
  unfolding rank
  rank_not h = rw h

pub rank_most : (k : List ℕ) (es : List Entry) → rank k es ≤ length es
unfolding rank
rank_most k [] = omega arith
rank_most k (e ∷ es) = go (comes_before e.key k) (rank_most k es)
  where
    go : (t : Bool) → rank k es ≤ length es → pick t (suc (rank k es)) 0 ≤ suc (length es)
    go true h = omega arith
    go false h = omega arith

-- a key that is not there, and one that is
module _ (k : List ℕ) (v : ℕ) where
  pub insert_new : (es : List Entry) → has k es ≡ false → insert k v es ≡ take (rank k es) es ++ (entry k v ∷ drop (rank k es) es)
  unfolding insert rank
  insert_new [] h = refl
  insert_new (e ∷ es) h = go (sides k e.key) (insert_new es)
    where
      go : Sides k e.key → (has k es ≡ false → insert k v es ≡ take (rank k es) es ++ (entry k v ∷ drop (rank k es) es))
          → insert k v (e ∷ es) ≡ take (rank k (e ∷ es)) (e ∷ es) ++ (entry k v ∷ drop (rank k (e ∷ es)) (e ∷ es))
      go (below b c n) ih = insert_before k v e es n b ∙ rw (rank_not k e es c)
      go (equal u b c n) ih = absurd (true≢false (sym (has_same k e es n) ∙ h))
      go (above b c n) ih = insert_after k v e es n b ∙ rw (rank_before k e es c) (ap (λ (z : List Entry). e ∷ z) (ih (sym (has_other k e es n) ∙ h)))

before_has : (k : List ℕ) (e : Entry) (es : List Entry) → rising (e ∷ es) ≡ true → comes_before k e.key ≡ true → has k (e ∷ es) ≡ false
unfolding rising all_above
before_has k e es r b = above_has k (e ∷ es) (ap₂ both b r)

-- the row that has the key
pub row_held : (k : List ℕ) (es : List Entry) → rising es ≡ true → has k es ≡ true
    → (v : ℕ) × (lookup k es ≡ Some v) × (drop (rank k es) es ≡ entry k v ∷ drop (suc (rank k es)) es)
unfolding lookup rising
row_held k [] r h = absurd (true≢false (sym h))
row_held k (e ∷ es) r h = go (sides k e.key) (row_held k es (rising_tail e.key es r))
  where
    go : Sides k e.key → (has k es ≡ true → (v : ℕ) × (lookup k es ≡ Some v) × (drop (rank k es) es ≡ entry k v ∷ drop (suc (rank k es)) es))
        → (v : ℕ) × (lookup k (e ∷ es) ≡ Some v) × (drop (rank k (e ∷ es)) (e ∷ es) ≡ entry k v ∷ drop (suc (rank k (e ∷ es))) (e ∷ es))
    go (below b c n) ih = absurd (true≢false (sym h ∙ before_has k e es r b))
    go (equal u b c n) ih = (e.value, lookup_same k e es n, rw (rank_not k e es c) (ap (λ (z : List ℕ). entry z e.value ∷ es) (sym u)))
    go (above b c n) ih =
        let (v, p, q) = ih (sym (has_other k e es n) ∙ h) in
        (v, lookup_other k e es n ∙ p, rw (rank_before k e es c) q)

pub rank_held : (k : List ℕ) (es : List Entry) → rising es ≡ true → has k es ≡ true → rank k es < length es
rank_held k es r h =
    let (v, p, q) = row_held k es r h in
    let n = ap length q in
    omega (arith, length-drop (rank k es) es)

module _ (k : List ℕ) (v : ℕ) where
  pub insert_held : (es : List Entry) → rising es ≡ true → has k es ≡ true → insert k v es ≡ take (rank k es) es ++ (entry k v ∷ drop (suc (rank k es)) es)
  unfolding lookup rising
  insert_held [] r h = absurd (true≢false (sym h))
  insert_held (e ∷ es) r h = go (sides k e.key) (insert_held es (rising_tail e.key es r))
    where
      go : Sides k e.key → (has k es ≡ true → insert k v es ≡ take (rank k es) es ++ (entry k v ∷ drop (suc (rank k es)) es))
          → insert k v (e ∷ es) ≡ take (rank k (e ∷ es)) (e ∷ es) ++ (entry k v ∷ drop (suc (rank k (e ∷ es))) (e ∷ es))
      go (below b c n) ih = absurd (true≢false (sym h ∙ before_has k e es r b))
      go (equal u b c n) ih = insert_same k v e es n ∙ rw (rank_not k e es c)
      go (above b c n) ih = insert_after k v e es n b ∙ rw (rank_before k e es c) (ap (λ (z : List Entry). e ∷ z) (ih (sym (has_other k e es n) ∙ h)))

module _ (k : List ℕ) where
  pub without_held : (es : List Entry) → rising es ≡ true → has k es ≡ true → without k es ≡ take (rank k es) es ++ drop (suc (rank k es)) es
  unfolding lookup rising
  without_held [] r h = absurd (true≢false (sym h))
  without_held (e ∷ es) r h = go (sides k e.key) (without_held es (rising_tail e.key es r))
    where
      go : Sides k e.key → (has k es ≡ true → without k es ≡ take (rank k es) es ++ drop (suc (rank k es)) es)
          → without k (e ∷ es) ≡ take (rank k (e ∷ es)) (e ∷ es) ++ drop (suc (rank k (e ∷ es))) (e ∷ es)
      go (below b c n) ih = absurd (true≢false (sym h ∙ before_has k e es r b))
      go (equal u b c n) ih = without_same k e es n ∙ rw (rank_not k e es c)
      go (above b c n) ih = without_other k e es n ∙ rw (rank_before k e es c) (ap (λ (z : List Entry). e ∷ z) (ih (sym (has_other k e es n) ∙ h)))

  pub without_new : (es : List Entry) → has k es ≡ false → without k es ≡ es
  unfolding without
  without_new [] h = refl
  without_new (e ∷ es) h = go (same k e.key) refl (without_new es)
    where
      go : (t : Bool) → same k e.key ≡ t → (has k es ≡ false → without k es ≡ es) → without k (e ∷ es) ≡ e ∷ es
      go true n ih = absurd (true≢false (sym (has_same k e es n) ∙ h))
      go false n ih = without_other k e es n ∙ ap (λ (z : List Entry). e ∷ z) (ih (sym (has_other k e es n) ∙ h))

-- find at the place
abbrev pub row_value : List ℕ → List Entry → Option ℕ
row_value k [] = None
row_value k (e ∷ es) = pick (same k e.key) (Some e.value) None

pub lookup_rank : (k : List ℕ) (es : List Entry) → rising es ≡ true → lookup k es ≡ row_value k (drop (rank k es) es)
unfolding lookup rising rank all_above
lookup_rank k [] r = refl
lookup_rank k (e ∷ es) r = go (sides k e.key) (lookup_rank k es (rising_tail e.key es r))
  where
    go : Sides k e.key → lookup k es ≡ row_value k (drop (rank k es) es) → lookup k (e ∷ es) ≡ row_value k (drop (rank k (e ∷ es)) (e ∷ es))
    go (below b c n) ih = above_absent k (e ∷ es) (ap₂ both b r) ∙ rw (rank_not k e es c, n)
    go (equal u b c n) ih = lookup_same k e es n ∙ rw (rank_not k e es c, n)
    go (above b c n) ih = lookup_other k e es n ∙ ih ∙ rw (rank_before k e es c)

held_pick : (t : Bool) (v : ℕ) → held_in (pick t (Some v) None) ≡ t
held_pick true v = refl
held_pick false v = refl

module _ (k : List ℕ) (es : List Entry) (r : rising es ≡ true) where
  pub has_row : (d : Entry) → rank k es < length es → has k es ≡ same k (get_or es (rank k es) d).key
  has_row d h =
      let i = rank k es in
      let e = get_or es i d in
      ap held_in (lookup_rank k es r ∙ ap (row_value k) (drop-cons es i d h)) ∙ held_pick (same k e.key) e.value

  pub has_end : length es ≤ rank k es → has k es ≡ false
  has_end h = is_false (has k es) (λ e. absurd (omega (arith, rank_held k es r e)))

-- the first key at or above stands there
pub first_rank : (k : List ℕ) (es : List Entry) → first_from k es ≡ head_of (drop (rank k es) es)
unfolding first_from rank
first_rank k [] = refl
first_rank k (e ∷ es) = go (comes_before e.key k) (first_rank k es)
  where
    go : (t : Bool) → first_from k es ≡ head_of (drop (rank k es) es) → pick t (first_from k es) (Some e) ≡ head_of (drop (pick t (suc (rank k es)) 0) (e ∷ es))
    go true ih = ih
    go false ih = refl

-- how many there are afterwards
pub length_new : (k : List ℕ) (v : ℕ) (es : List Entry) → has k es ≡ false → length (insert k v es) ≡ suc (length es)
length_new k v es h =
    let i = rank k es in
    omega (arith, ap length (insert_new k v es h), length-append (take i es) (entry k v ∷ drop i es), length-append (take i es) (drop i es), ap length (take-append-drop i es))

pub length_held : (k : List ℕ) (v : ℕ) (es : List Entry) → rising es ≡ true → has k es ≡ true → length (insert k v es) ≡ length es
length_held k v es r h =
    let i = rank k es in
    omega (arith, ap length (insert_held k v es r h), length-append (take i es) (entry k v ∷ drop (suc i) es), length-take i es, length-drop (suc i) es, rank_held k es r h)

pub length_without : (k : List ℕ) (es : List Entry) → rising es ≡ true → has k es ≡ true → suc (length (without k es)) ≡ length es
length_without k es r h =
    let i = rank k es in
    omega (arith, ap length (without_held k es r h), length-append (take i es) (drop (suc i) es), length-take i es, length-drop (suc i) es, rank_held k es r h)
