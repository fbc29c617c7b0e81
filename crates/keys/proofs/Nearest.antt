-- What the neighbours of a key are: the answer is held, on the wanted side, and none stands between; none exactly when there is none on
-- that side. Assumes nothing.
use mathlib.Core.Path.{◌≡◌, refl, sym, ap, ap₂, ◌∙◌, subst}
use mathlib.Core.Bool.{Bool, true, false, true≢false}
use mathlib.Core.List.{List, [], ◌∷◌}
use Rattle.std.proofs.Common.{Option, Some, None}
use Rattle.octets.proofs.Options.{some_injective, none_ne_some, some_ne_none}
use Prim.Native.Nat.{ℕ}
use Rattle.octets.specs.Pick.{pick, both}
use Rattle.std.specs.Option.{option_or}
use Rattle.octets.specs.Compare.{same, comes_before}
use Rattle.octets.proofs.Laws.{same_true, same_refl, before_self, before_differs}
use Rattle.keys.specs.Entries.{Entry, all_above, rising, lookup, first_from, last_up_to}
use Rattle.keys.proofs.Every.{Keys}
use Rattle.keys.proofs.Sorted.{rising_tail}
use Rattle.keys.proofs.Sides.{same_swap, before_once}
use Rattle.keys.proofs.Maps.{lookup_same, lookup_other, above_keys}

-- what holds of every key holds of one that is found
pub keys_held : (P : List ℕ → Type 0) (j : List ℕ) (w : ℕ) (es : List Entry) → Keys P es → lookup j es ≡ Some w → P j
unfolding lookup
keys_held P j w [] h e = absurd (none_ne_some w e)
keys_held P j w (x ∷ es) h e = go (same j x.key) refl (keys_held P j w es h.1)
  where
    go : (t : Bool) → same j x.key ≡ t → (lookup j es ≡ Some w → P j) → P j
    go true n ih = subst P (sym (same_true j x.key n)) h.0
    go false n ih = ih (sym (lookup_other j x es n) ∙ e)

-- a key that is found stands first, or later
found_cases : {C : Type 0} (j : List ℕ) (w : ℕ) (x : Entry) (es : List Entry) → lookup j (x ∷ es) ≡ Some w → (j ≡ x.key → C) → (lookup j es ≡ Some w → C) → C
found_cases {C} j w x es h f g = go (same j x.key) refl
  where
    go : (t : Bool) → same j x.key ≡ t → C
    go true n = f (same_true j x.key n)
    go false n = g (sym (lookup_other j x es n) ∙ h)

-- a later one comes after the first
later_after : (j : List ℕ) (w : ℕ) (x : Entry) (es : List Entry) → rising (x ∷ es) ≡ true → lookup j es ≡ Some w → comes_before x.key j ≡ true
unfolding rising
later_after j w x es r h = keys_held (λ (z : List ℕ). comes_before x.key z ≡ true) j w es (above_keys x.key es r) h

later_held : (x e : Entry) (es : List Entry) → rising (x ∷ es) ≡ true → lookup e.key es ≡ Some e.value → lookup e.key (x ∷ es) ≡ Some e.value
later_held x e es r h =
    lookup_other e.key x es (same_swap x.key e.key (before_differs x.key e.key (later_after e.key e.value x es r h))) ∙ h

first_held : (x : Entry) (es : List Entry) → lookup x.key (x ∷ es) ≡ Some x.value
first_held x es = lookup_same x.key x es (same_refl x.key)

rising_rest : (x : Entry) (es : List Entry) → rising (x ∷ es) ≡ true → rising es ≡ true
unfolding rising
rising_rest x es r = rising_tail x.key es r

-- e is the first at or above k
pub record FirstAt (k : List ℕ) (es : List Entry) (e : Entry) : Type 0 where
  pub held : lookup e.key es ≡ Some e.value
  pub from : comes_before e.key k ≡ false
  pub least : (j : List ℕ) (w : ℕ) → lookup j es ≡ Some w → comes_before j k ≡ false → comes_before j e.key ≡ false

pub first_at_lem : (k : List ℕ) (e : Entry) (es : List Entry) → rising es ≡ true → first_from k es ≡ Some e → FirstAt k es e
unfolding first_from
first_at_lem k e [] r h = absurd (none_ne_some e h)
first_at_lem k e (x ∷ es) r h = go (comes_before x.key k) refl (first_at_lem k e es (rising_rest x es r)) h
  where
    go : (t : Bool) → comes_before x.key k ≡ t → (first_from k es ≡ Some e → FirstAt k es e) → pick t (first_from k es) (Some x) ≡ Some e → FirstAt k (x ∷ es) e
    go true n ih h =
        let f = ih h in
        record {
          held = later_held x e es r f.held;
          from = f.from;
          least = λ j w l q. found_cases j w x es l (λ u. absurd (true≢false (sym n ∙ ap (λ (z : List ℕ). comes_before z k) (sym u) ∙ q))) (λ l. f.least j w l q);
        }
    go false n ih h =
        subst (FirstAt k (x ∷ es)) (some_injective x e h)
        (record {
          held = first_held x es;
          from = n;
          least = λ j w l q. found_cases j w x es l (λ u. ap (λ (z : List ℕ). comes_before z x.key) u ∙ before_self x.key) (λ l. before_once x.key j (later_after j w x es r l));
        })

first_all : (k : List ℕ) (es : List Entry) → first_from k es ≡ None → Keys (λ (x : List ℕ). comes_before x k ≡ true) es
unfolding first_from
first_all k [] h = tt
first_all k (x ∷ es) h = go (comes_before x.key k) refl (first_all k es) h
  where
    go : (t : Bool) → comes_before x.key k ≡ t → (first_from k es ≡ None → Keys (λ (x : List ℕ). comes_before x k ≡ true) es)
        → pick t (first_from k es) (Some x) ≡ None → Keys (λ (x : List ℕ). comes_before x k ≡ true) (x ∷ es)
    go true n ih h = (n, ih h)
    go false n ih h = absurd (some_ne_none x h)

pub first_none : (k : List ℕ) (es : List Entry) → first_from k es ≡ None → (j : List ℕ) (w : ℕ) → lookup j es ≡ Some w → comes_before j k ≡ true
first_none k es h j w = keys_held (λ (x : List ℕ). comes_before x k ≡ true) j w es (first_all k es h)

-- e is the last at or below k
pub record LastAt (k : List ℕ) (es : List Entry) (e : Entry) : Type 0 where
  pub held : lookup e.key es ≡ Some e.value
  pub up_to : comes_before k e.key ≡ false
  pub greatest : (j : List ℕ) (w : ℕ) → lookup j es ≡ Some w → comes_before k j ≡ false → comes_before e.key j ≡ false

last_all : (k : List ℕ) (es : List Entry) → rising es ≡ true → last_up_to k es ≡ None → Keys (λ (x : List ℕ). comes_before k x ≡ true) es
unfolding last_up_to rising all_above
last_all k [] r h = tt
last_all k (x ∷ es) r h = go (comes_before k x.key) refl (last_up_to k es) h
  where
    go : (t : Bool) → comes_before k x.key ≡ t → (o : Option Entry) → pick t None (option_or o (Some x)) ≡ None → Keys (λ (x : List ℕ). comes_before k x ≡ true) (x ∷ es)
    go true n o h = above_keys k (x ∷ es) (ap₂ both n r)
    go false n None h = absurd (some_ne_none x h)
    go false n (Some y) h = absurd (some_ne_none y h)

pub last_none : (k : List ℕ) (es : List Entry) → rising es ≡ true → last_up_to k es ≡ None → (j : List ℕ) (w : ℕ) → lookup j es ≡ Some w → comes_before k j ≡ true
last_none k es r h j w = keys_held (λ (x : List ℕ). comes_before k x ≡ true) j w es (last_all k es r h)

pub last_at_lem : (k : List ℕ) (e : Entry) (es : List Entry) → rising es ≡ true → last_up_to k es ≡ Some e → LastAt k es e
unfolding last_up_to
last_at_lem k e [] r h = absurd (none_ne_some e h)
last_at_lem k e (x ∷ es) r h = go (comes_before k x.key) refl (last_up_to k es) refl (last_at_lem k e es (rising_rest x es r)) h
  where
    go : (t : Bool) → comes_before k x.key ≡ t → (o : Option Entry) → last_up_to k es ≡ o → (last_up_to k es ≡ Some e → LastAt k es e)
        → pick t None (option_or o (Some x)) ≡ Some e → LastAt k (x ∷ es) e
    go true n o p ih h = absurd (none_ne_some e h)
    go false n None p ih h =
        subst (LastAt k (x ∷ es)) (some_injective x e h)
        (record {
          held = first_held x es;
          up_to = n;
          greatest = λ j w l q. found_cases j w x es l (λ u. ap (comes_before x.key) u ∙ before_self x.key) (λ l. absurd (true≢false (sym (last_none k es (rising_rest x es r) p j w l) ∙ q)));
        })
    go false n (Some y) p ih h =
        let f = ih (p ∙ h) in
        record {
          held = later_held x e es r f.held;
          up_to = f.up_to;
          greatest = λ j w l q. found_cases j w x es l (λ u. ap (comes_before e.key) u ∙ before_once x.key e.key (later_after e.key e.value x es r f.held)) (λ l. f.greatest j w l q);
        }
