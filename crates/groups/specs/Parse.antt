-- Strict reading of a group's region and of its body in a snapshot: the group, or none. It is some group exactly when the bytes
-- are that group's and it keeps the rules (proofs/Laws: region_parse, region_bytes_lem, body_parse, body_bytes_lem). Each reading is a test
-- of the bytes, in the code's order, and what is read of them. Assumes nothing.
use Rattle.std.specs.Prelude.{Bool, true, List, [], ◌∷◌, ℕ, zero, suc, ◌+◌, ◌-◌, ◌*◌, leb, ltb, eqb, length, drop, get_or, Option, Some, None}
use Rattle.octets.specs.Pick.{both}
use Rattle.octets.specs.Maybe.{◌>>=◌, ◌>>◌, need}
use Rattle.octets.specs.Bytes.{le_value}
use Rattle.octets.specs.Place.{area, Taken, take_bytes}
use Rattle.octets.specs.Compare.{all_zero, comes_before}
use Rattle.id.specs.declared.Id.{Id}
use Rattle.id.specs.Id.{least, below, at_most}
use Rattle.id.specs.Bytes.{id_from}
use Rattle.groups.specs.Group.{Pending, Group, longest_name, most_consumers, most_pending}
use Rattle.groups.specs.Bytes.{entry_bytes, place_at, time_at, count_at, field_bytes, region_size, delivered_at, consumers_at, fields_at, pending_at, entries_at, consumers_bytes, pending_room}

-- the field of 17 bytes at the start of s: its name, and that it is a name of 1 to 16 bytes and zeros
unfoldable pub name_in : List ℕ → List ℕ
name_in s = area 1 (get_or s 0 0) s

unfoldable pub is_field : List ℕ → Bool
is_field s =
    both (both (leb 1 (get_or s 0 0)) (leb (get_or s 0 0) longest_name))
    (all_zero (area (1 + get_or s 0 0) (longest_name - get_or s 0 0) s))

-- so many fields: their names, and that the names rise above one
unfoldable pub names_in : ℕ → List ℕ → List (List ℕ)
names_in zero s = []
names_in (suc n) s = name_in s ∷ names_in n (drop field_bytes s)

unfoldable pub are_fields : List ℕ → ℕ → List ℕ → Bool
are_fields above zero s = true
are_fields above (suc n) s =
    both (both (is_field s) (comes_before above (name_in s))) (are_fields (name_in s) n (drop field_bytes s))

-- the pending entry at the start of s. Its consumer's place is below the number of consumers, its count at least 1, its ID above one
-- ID and at most another
unfoldable pub entry_id : List ℕ → Id
entry_id s = id_from (area 0 16 s)

unfoldable pub pending_in : List (List ℕ) → List ℕ → Pending
pending_in consumers s =
    record {
      id = entry_id s;
      consumer = get_or consumers (get_or s place_at 0) [];
      time = le_value (area time_at 8 s);
      count = le_value (area count_at 2 s);
    }

unfoldable pub is_entry : ℕ → Id → Id → List ℕ → Bool
is_entry consumers above most s =
    both (both (ltb (get_or s place_at 0) consumers) (leb 1 (le_value (area count_at 2 s))))
    (both (below above (entry_id s)) (at_most (entry_id s) most))

-- so many entries, rising above an ID
unfoldable pub all_pending_in : ℕ → List (List ℕ) → List ℕ → List Pending
all_pending_in zero consumers s = []
all_pending_in (suc n) consumers s = pending_in consumers s ∷ all_pending_in n consumers (drop entry_bytes s)

unfoldable pub are_entries : ℕ → Id → Id → ℕ → List ℕ → Bool
are_entries consumers above most zero s = true
are_entries consumers above most (suc n) s =
    both (is_entry consumers above most s) (are_entries consumers (entry_id s) most n (drop entry_bytes s))

-- so many of the bytes from at on are used, and the others of that room are zero
abbrev pub rest_zero : ℕ → ℕ → ℕ → List ℕ → Bool
rest_zero at used room s = all_zero (area (at + used) (room - used) s)

-- the parts of a region: the numbers of consumers and of entries, the consumers, the last delivered ID, the group
abbrev pub consumer_count_in : List ℕ → ℕ
consumer_count_in s = get_or s consumers_at 0

abbrev pub pending_count_in : List ℕ → ℕ
pending_count_in s = le_value (area pending_at 2 s)

unfoldable pub delivered_in : List ℕ → Id
delivered_in s = id_from (area delivered_at 16 s)

unfoldable pub group_in : List ℕ → Group
group_in s =
    let consumers : List (List ℕ) = names_in (consumer_count_in s) (drop fields_at s) in
    record {
      name = name_in s;
      delivered = delivered_in s;
      consumers = consumers;
      pending = all_pending_in (pending_count_in s) consumers (drop entries_at s);
    }

-- the tests of the consumers and of the entries
unfoldable pub names_pass : List ℕ → Bool
names_pass s =
    both (leb (consumer_count_in s) most_consumers)
    (both (are_fields [] (consumer_count_in s) (drop fields_at s))
    (rest_zero fields_at (consumer_count_in s * field_bytes) consumers_bytes s))

unfoldable pub entries_pass : List ℕ → Bool
entries_pass s =
    both (leb (pending_count_in s) most_pending)
    (both (are_entries (consumer_count_in s) least (delivered_in s) (pending_count_in s) (drop entries_at s))
    (rest_zero entries_at (pending_count_in s * entry_bytes) pending_room s))

unfoldable pub is_region : List ℕ → Bool
is_region s = both (eqb (length s) region_size) (both (is_field s) (both (names_pass s) (entries_pass s)))

unfoldable pub parse_region : List ℕ → Option Group
parse_region s = do
  need (is_region s)
  Some (group_in s)

-- a length of one byte, 1 to 16, and so many bytes
unfoldable pub take_name : List ℕ → Option Taken
take_name [] = None
take_name (n ∷ s) = do
  need (both (leb 1 n) (leb n longest_name))
  take_bytes n s

pub record TakenNames : Type 0 where
  pub names : List (List ℕ)
  pub rest : List ℕ

-- so many names, rising above one
unfoldable pub take_names : List ℕ → ℕ → List ℕ → Option TakenNames
take_names above zero s = Some (record { names = []; rest = s })
take_names above (suc n) s = do
  x ← take_name s
  need (comes_before above x.bytes)
  xs ← take_names x.bytes n x.rest
  Some (record { names = x.bytes ∷ xs.names; rest = xs.rest })

-- the body ends exactly at the end
unfoldable pub parse_body : List ℕ → Option Group
parse_body s = do
  name ← take_name s
  delivered ← take_bytes 16 name.rest
  count ← take_bytes 1 delivered.rest
  need (leb (le_value count.bytes) most_consumers)
  consumers ← take_names [] (le_value count.bytes) count.rest
  entries ← take_bytes 2 consumers.rest
  need (leb (le_value entries.bytes) most_pending)
  need (eqb (length entries.rest) (le_value entries.bytes * entry_bytes))
  need (are_entries (le_value count.bytes) least (id_from delivered.bytes) (le_value entries.bytes) entries.rest)
  Some (record {
    name = name.bytes;
    delivered = id_from delivered.bytes;
    consumers = consumers.names;
    pending = all_pending_in (le_value entries.bytes) consumers.names entries.rest;
  })
