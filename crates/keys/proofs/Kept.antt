-- Every operation on a map leaves a map. Assumes nothing.
use mathlib.Core.Path.{◌≡◌, refl, sym, ap, ap₂, ◌∙◌}
use mathlib.Core.Bool.{Bool, true, false, true≢false}
use mathlib.Core.List.{List, [], ◌∷◌}
use Prim.Native.Nat.{ℕ, ◌≤◌, ◌<◌, ◌^◌}
use native.Mathlib.Omega.{arith}
use lib.Dec.{leb, ltb}
use lib.ListN.{length}
use borrow.Author.Tests.{leb-false, lt-ltb, lt-leb}
use Rattle.octets.specs.Pick.{pick, both}
use Rattle.std.proofs.Common.{is_none, Option, Some, None}
use Rattle.octets.specs.Compare.{same, comes_before}
use Rattle.octets.proofs.Laws.{both_false}
use Rattle.keys.specs.Entries.{Entry, entry, most_keys, is_key, all_fit, is_map, lookup, has, insert, without}
use Rattle.keys.specs.Operation.{Operation, put, remove, find, first_at_or_above, last_at_or_below, Reply, refused, done, only_reads, stays, keyed, Replied, put_to, remove_from, operate, operate_all, is_change, code_of, removed, value, found, nothing}
use Rattle.keys.proofs.Sorted.{both_left, both_right}
use Rattle.keys.proofs.Fits.{is_map_lem, map_length, map_rising, map_fit}
use Rattle.keys.proofs.Maps.{held_in, rising_insert, rising_without}
use Rattle.keys.proofs.Positions.{length_new, length_held, length_without, without_new}

-- the test of one entry
abbrev fits : List ℕ → ℕ → Bool
fits k v = both (is_key k) (ltb v (2 ^ 32))

pub fit_insert : (k : List ℕ) (v : ℕ) (es : List Entry) → is_key k ≡ true → v < 2 ^ 32 → all_fit es ≡ true → all_fit (insert k v es) ≡ true
unfolding all_fit insert
fit_insert k v [] p q h = ap₂ both (ap₂ both p (lt-ltb v (2 ^ 32) q)) refl
fit_insert k v (e ∷ es) p q h =
    let t = ap₂ both p (lt-ltb v (2 ^ 32) q) in
    let r = both_right (fits e.key e.value) (all_fit es) h in
    go (same k e.key) (comes_before k e.key) (ap₂ both t r) (ap₂ both t h)
    (ap₂ both (both_left (fits e.key e.value) (all_fit es) h) (fit_insert k v es p q r))
  where
    go : (s b : Bool) → all_fit (entry k v ∷ es) ≡ true → all_fit (entry k v ∷ (e ∷ es)) ≡ true → all_fit (e ∷ insert k v es) ≡ true
        → all_fit (pick s (entry k v ∷ es) (pick b (entry k v ∷ (e ∷ es)) (e ∷ insert k v es))) ≡ true
    go true b x y z = x
    go false true x y z = y
    go false false x y z = z

pub fit_without : (k : List ℕ) (es : List Entry) → all_fit es ≡ true → all_fit (without k es) ≡ true
unfolding all_fit without
fit_without k [] h = refl
fit_without k (e ∷ es) h =
    let r = both_right (fits e.key e.value) (all_fit es) h in
    go (same k e.key) r (ap₂ both (both_left (fits e.key e.value) (all_fit es) h) (fit_without k es r))
  where
    go : (s : Bool) → all_fit es ≡ true → all_fit (e ∷ without k es) ≡ true → all_fit (pick s es (e ∷ without k es)) ≡ true
    go true x y = x
    go false x y = y

pub map_insert : (k : List ℕ) (v : ℕ) (es : List Entry) → is_map es ≡ true → is_key k ≡ true → v < 2 ^ 32
    → both (is_none (lookup k es)) (leb most_keys (length es)) ≡ false → is_map (insert k v es) ≡ true
map_insert k v es m p q full =
    let r = map_rising es m in
    is_map_lem (insert k v es) (go (lookup k es) refl full) (rising_insert k v es r) (fit_insert k v es p q (map_fit es m))
  where
    go : (o : Option ℕ) → lookup k es ≡ o → both (is_none o) (leb most_keys (length es)) ≡ false → length (insert k v es) ≤ 64
    go None e f = omega (arith, length_new k v es (ap held_in e), leb-false 64 (length es) f)
    go (Some w) e f = omega (arith, length_held k v es (map_rising es m) (ap held_in e), map_length es m)

pub map_without : (k : List ℕ) (es : List Entry) → is_map es ≡ true → is_map (without k es) ≡ true
map_without k es m =
    let r = map_rising es m in
    is_map_lem (without k es) (go (has k es) refl) (rising_without k es r) (fit_without k es (map_fit es m))
  where
    go : (t : Bool) → has k es ≡ t → length (without k es) ≤ 64
    go true e = omega (arith, length_without k es (map_rising es m) e, map_length es m)
    go false e = omega (arith, ap length (without_new k es e), map_length es m)

-- a value of 32 bits
abbrev pub Small : Operation → Type 0
Small (put k v) = v < 2 ^ 32
Small (remove k) = Unit {0}
Small (find k) = Unit {0}
Small (first_at_or_above k) = Unit {0}
Small (last_at_or_below k) = Unit {0}

-- either way of a choice
chosen_map : (t : Bool) (a b : Replied) → (t ≡ true → is_map a.after ≡ true) → (t ≡ false → is_map b.after ≡ true) → is_map (pick t a b).after ≡ true
chosen_map true a b x y = x refl
chosen_map false a b x y = y refl

put_map : (k : List ℕ) (v : ℕ) (es : List Entry) → is_map es ≡ true → is_key k ≡ true → v < 2 ^ 32 → is_map (put_to k v es).after ≡ true
unfolding put_to
put_map k v es m p q = chosen_map (both (is_none (lookup k es)) (leb most_keys (length es))) _ _ (λ e. m) (map_insert k v es m p q)

remove_map : (k : List ℕ) (es : List Entry) → is_map es ≡ true → is_map (remove_from k es).after ≡ true
unfolding remove_from
remove_map k es m = chosen_map (has k es) _ _ (λ e. map_without k es m) (λ e. m)

pub operate_map : (o : Operation) (es : List Entry) → Small o → is_map es ≡ true → is_map (operate o es).after ≡ true
operate_map (put k v) es s m = chosen_map (is_key k) _ _ (λ e. put_map k v es m e s) (λ e. m)
operate_map (remove k) es s m = chosen_map (is_key k) _ _ (λ e. remove_map k es m) (λ e. m)
operate_map (find k) es s m = chosen_map (is_key k) _ _ (λ e. m) (λ e. m)
operate_map (first_at_or_above k) es s m = chosen_map (is_key k) _ _ (λ e. m) (λ e. m)
operate_map (last_at_or_below k) es s m = chosen_map (is_key k) _ _ (λ e. m) (λ e. m)

abbrev pub AllSmall : List Operation → Type 0
AllSmall [] = Unit {0}
AllSmall (o ∷ os) = Small o × AllSmall os

pub operations_map : (os : List Operation) (es : List Entry) → AllSmall os → is_map es ≡ true → is_map (operate_all os es) ≡ true
unfolding operate_all
operations_map [] es s m = m
operations_map (o ∷ os) es s m = operations_map os (operate o es).after s.1 (operate_map o es s.0 m)

-- what only reads leaves the entries
stays_after : (k : List ℕ) (es : List Entry) (r : Reply) → (keyed k es (stays es r)).after ≡ es
stays_after k es r = go (is_key k)
  where
    go : (t : Bool) → (pick t (stays es r) (stays es (refused 3))).after ≡ es
    go true = refl
    go false = refl

pub reads_after : (o : Operation) (es : List Entry) → only_reads o ≡ true → (operate o es).after ≡ es
reads_after (put k v) es e = absurd (true≢false (sym e))
reads_after (remove k) es e = absurd (true≢false (sym e))
reads_after (find k) es e = stays_after k es _
reads_after (first_at_or_above k) es e = stays_after k es _
reads_after (last_at_or_below k) es e = stays_after k es _

pub full_not : (k : List ℕ) (es : List Entry) → length es < 64 → both (is_none (lookup k es)) (leb 64 (length es)) ≡ false
full_not k es l = ap (both (is_none (lookup k es))) (lt-leb 64 (length es) l) ∙ both_false (is_none (lookup k es))

-- below 64 keys a put is done
pub put_below_64 : (k : List ℕ) (v : ℕ) (es : List Entry) → is_key k ≡ true → length es < 64 → (operate (put k v) es).reply ≡ done
unfolding put_to
put_below_64 k v es p l =
    rw (p, full_not k es l)

-- an operation that answers no change leaves the entries
pub quiet_after : (o : Operation) (es : List Entry) → is_change (operate o es).reply ≡ false → (operate o es).after ≡ es
unfolding put_to remove_from
quiet_after (put k v) es h = go (is_key k) (both (is_none (lookup k es)) (leb most_keys (length es))) h
  where
    go : (t u : Bool) → is_change (pick t (pick u (stays es (refused 18)) (record { reply = done; after = insert k v es })) (stays es (refused 3))).reply ≡ false
        → (pick t (pick u (stays es (refused 18)) (record { reply = done; after = insert k v es })) (stays es (refused 3))).after ≡ es
    go false u h = refl
    go true true h = refl
    go true false h = absurd (true≢false h)
quiet_after (remove k) es h = go (is_key k) (has k es) h
  where
    go : (t u : Bool) → is_change (pick t (pick u (record { reply = removed 1; after = without k es }) (stays es (removed 0))) (stays es (refused 3))).reply ≡ false
        → (pick t (pick u (record { reply = removed 1; after = without k es }) (stays es (removed 0))) (stays es (refused 3))).after ≡ es
    go false u h = refl
    go true false h = refl
    go true true h = absurd (true≢false h)
quiet_after (find k) es h = reads_after (find k) es refl
quiet_after (first_at_or_above k) es h = reads_after (first_at_or_above k) es refl
quiet_after (last_at_or_below k) es h = reads_after (last_at_or_below k) es refl

-- what changes the entries answers 0
pub change_code : (r : Reply) → is_change r ≡ true → code_of r ≡ 0
change_code (refused n) h = absurd (true≢false (sym h))
change_code done h = refl
change_code (removed n) h = refl
change_code (value v) h = refl
change_code (found e) h = refl
change_code nothing h = absurd (true≢false (sym h))
