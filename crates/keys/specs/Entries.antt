-- The entries of an index (01, The index): a finite map from keys to 32-bit values, as a list in rising order of the keys.
-- Order is bytewise, a prefix first. Assumes nothing.
use Rattle.std.specs.Prelude.{Bool, true, List, [], ◌∷◌, ℕ, ◌^◌, min, leb, ltb, length, get_or, is_none, Option, Some, None}
use Rattle.octets.specs.Pick.{pick, both}
use Rattle.std.specs.Option.{option_or}
use Rattle.octets.specs.Compare.{comes_before, same}

pub record Entry : Type 0 where
  pub key : List ℕ
  pub value : ℕ

abbrev pub entry : List ℕ → ℕ → Entry
entry k v = record { key = k; value = v }

-- at most 64 keys, of 1 to 16 bytes
abbrev pub most_keys : ℕ
most_keys = 64

abbrev pub is_key : List ℕ → Bool
is_key k = both (leb 1 (length k)) (leb (length k) 16)

-- of lengths kept in a list the one at p, as no key or part of one has more than 16 bytes
abbrev pub length_of : List ℕ → ℕ → ℕ
length_of len p = min (get_or len p 0) 16

-- every key is above k
unfoldable pub all_above : List ℕ → List Entry → Bool
all_above k [] = true
all_above k (e ∷ es) = both (comes_before k e.key) (all_above e.key es)

unfoldable pub rising : List Entry → Bool
rising [] = true
rising (e ∷ es) = all_above e.key es

unfoldable pub all_fit : List Entry → Bool
all_fit [] = true
all_fit (e ∷ es) = both (both (is_key e.key) (ltb e.value (2 ^ 32))) (all_fit es)

-- what an index can hold
unfoldable pub is_map : List Entry → Bool
is_map es = both (both (leb (length es) most_keys) (rising es)) (all_fit es)

-- find
unfoldable pub lookup : List ℕ → List Entry → Option ℕ
lookup k [] = None
lookup k (e ∷ es) = pick (same k e.key) (Some e.value) (lookup k es)

abbrev pub has : List ℕ → List Entry → Bool
has k es = pick (is_none (lookup k es)) Bool.false true

-- put: an existing key's value is replaced, a new key goes to its place
unfoldable pub insert : List ℕ → ℕ → List Entry → List Entry
insert k v [] = entry k v ∷ []
insert k v (e ∷ es) =
    pick (same k e.key) (entry k v ∷ es)
    (pick (comes_before k e.key) (entry k v ∷ (e ∷ es)) (e ∷ insert k v es))

unfoldable pub without : List ℕ → List Entry → List Entry
without k [] = []
without k (e ∷ es) = pick (same k e.key) es (e ∷ without k es)

-- first key at or above k: the first that does not come before k
unfoldable pub first_from : List ℕ → List Entry → Option Entry
first_from k [] = None
first_from k (e ∷ es) = pick (comes_before e.key k) (first_from k es) (Some e)

-- last key at or below k: the last that k does not come before
unfoldable pub last_up_to : List ℕ → List Entry → Option Entry
last_up_to k [] = None
last_up_to k (e ∷ es) = pick (comes_before k e.key) None (option_or (last_up_to k es) (Some e))
