-- What is_map says of a list of entries: how many they are, that they rise, and how long their keys are. Assumes nothing.
use mathlib.Core.Path.{◌≡◌, refl, ap, ap₂, ◌∙◌}
use mathlib.Core.Bool.{true}
use mathlib.Core.List.{List, [], ◌∷◌}
use Prim.Native.Nat.{ℕ, ◌≤◌, ◌^◌}
use lib.Dec.{leb, ltb}
use lib.ListN.{length}
use borrow.Author.Tests.{leb-true, le-leb}
use Rattle.octets.specs.Pick.{both}
use Rattle.keys.specs.Entries.{Entry, most_keys, is_key, rising, all_fit, is_map}
use Rattle.keys.proofs.Sorted.{both_left, both_right}

pub is_map_lem : (es : List Entry) → length es ≤ 64 → rising es ≡ true → all_fit es ≡ true → is_map es ≡ true
unfolding is_map
is_map_lem es n r f = ap₂ both (ap₂ both (le-leb (length es) 64 n) r) f

module _ (es : List Entry) (m : is_map es ≡ true) where
  pub map_length : length es ≤ 64
  unfolding is_map
  map_length = leb-true (length es) 64 (both_left _ (rising es) (both_left _ (all_fit es) m))

  pub map_rising : rising es ≡ true
  unfolding is_map
  map_rising = both_right (leb (length es) most_keys) (rising es) (both_left _ (all_fit es) m)

  pub map_fit : all_fit es ≡ true
  unfolding is_map
  map_fit = both_right (both (leb (length es) most_keys) (rising es)) (all_fit es) m

pub key_short : (k : List ℕ) → is_key k ≡ true → length k ≤ 16
key_short k h = leb-true (length k) 16 (both_right (leb 1 (length k)) _ h)

pub fit_head : (e : Entry) (es : List Entry) → all_fit (e ∷ es) ≡ true → is_key e.key ≡ true
unfolding all_fit
fit_head e es h = both_left (is_key e.key) (ltb e.value (2 ^ 32)) (both_left _ (all_fit es) h)

pub fit_tail : (e : Entry) (es : List Entry) → all_fit (e ∷ es) ≡ true → all_fit es ≡ true
unfolding all_fit
fit_tail e es h = both_right (both (is_key e.key) (ltb e.value (2 ^ 32))) (all_fit es) h

-- no entries
no_entries : is_map [] ≡ true
unfolding is_map rising all_fit
no_entries = refl

pub none_map : (es : List Entry) → es ≡ [] → is_map es ≡ true
none_map es e = ap is_map e ∙ no_entries
