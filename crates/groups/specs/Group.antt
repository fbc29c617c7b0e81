-- A consumer group with its rules (01, The ledger). Consumers stand by rising name and pending entries by rising ID: the order
-- in which they came is no part of the ledger. An entry names its one consumer, so in each group a pending ID has exactly one.
-- Assumes nothing.
use Rattle.std.specs.Prelude.{Bool, true, false, List, [], ◌∷◌, ℕ, ◌^◌, leb, ltb, length}
use Rattle.std.proofs.Math.Pow.{are_bytes}
use Rattle.octets.specs.Pick.{pick, both}
use Rattle.octets.specs.Compare.{same, comes_before}
use Rattle.id.specs.declared.Id.{Id}
use Rattle.id.specs.Id.{is_id, least, below, at_most}

-- a pending entry: an ID, its consumer's name, delivery time and delivery count
pub record Pending : Type 0 where
  pub id : Id
  pub consumer : List ℕ
  pub time : ℕ
  pub count : ℕ

pub record Group : Type 0 where
  pub name : List ℕ
  pub delivered : Id  -- the last delivered ID
  pub consumers : List (List ℕ)
  pub pending : List Pending

abbrev pub most_consumers : ℕ
most_consumers = 16

abbrev pub most_pending : ℕ
most_pending = 256

abbrev pub most_count : ℕ
most_count = 65535

-- group and consumer names are 1 to 16 bytes
abbrev pub longest_name : ℕ
longest_name = 16

abbrev pub is_name : List ℕ → Bool
is_name n = both (both (leb 1 (length n)) (leb (length n) longest_name)) (are_bytes n)

unfoldable pub are_names : List (List ℕ) → Bool
are_names [] = true
are_names (n ∷ ns) = both (is_name n) (are_names ns)

-- names that rise in the index's order (bytewise, a prefix first), so no two are one
unfoldable pub names_above : List ℕ → List (List ℕ) → Bool
names_above n [] = true
names_above n (m ∷ ms) = both (comes_before n m) (names_above m ms)

unfoldable pub rising_names : List (List ℕ) → Bool
rising_names [] = true
rising_names (n ∷ ns) = names_above n ns

unfoldable pub is_among : List ℕ → List (List ℕ) → Bool
is_among n [] = false
is_among n (m ∷ ms) = pick (same n m) true (is_among n ms)

-- rising IDs above i, so one entry per ID; each at most both the last ID and the last delivered ID
unfoldable pub pending_above : Id → List Pending → Bool
pending_above i [] = true
pending_above i (p ∷ ps) = both (below i p.id) (pending_above p.id ps)

unfoldable pub pending_up_to : Id → List Pending → Bool
pending_up_to i [] = true
pending_up_to i (p ∷ ps) = both (at_most p.id i) (pending_up_to i ps)

unfoldable pub is_pending : List (List ℕ) → Pending → Bool
is_pending consumers p =
    both (both (is_id p.id) (is_among p.consumer consumers))
    (both (ltb p.time (2 ^ 64)) (both (leb 1 p.count) (leb p.count most_count)))

unfoldable pub are_pending : List (List ℕ) → List Pending → Bool
are_pending consumers [] = true
are_pending consumers (p ∷ ps) = both (is_pending consumers p) (are_pending consumers ps)

-- the rules of a group by itself
unfoldable pub is_group : Group → Bool
is_group g =
    both (both (is_name g.name) (is_id g.delivered))
    (both (both (leb (length g.consumers) most_consumers) (both (are_names g.consumers) (rising_names g.consumers)))
    (both (both (leb (length g.pending) most_pending) (are_pending g.consumers g.pending))
    (both (pending_above least g.pending) (pending_up_to g.delivered g.pending))))
