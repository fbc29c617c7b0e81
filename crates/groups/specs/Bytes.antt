-- The bytes of a group, in its region of the state and in a snapshot. Numbers are little-endian, IDs big-endian.
--
--     pending entry   | ID 16 | consumer's place from 0, 1 | time 8 | count 2 |                                            27 bytes
--     body            | length 1, name | last delivered 16 | consumers 1 | length 1, name | .. | pending 2 | entry | .. |
--     region          the same with 16 bytes for each name, room for 16 consumers and 256 entries, all unused bytes zero:
--                     | 1, 16 | 16 | 1 | 16 × (1, 16) | 2 | 256 × 27 |                                                 7,220 bytes
--
-- Assumes nothing.
use Rattle.std.specs.Prelude.{List, [], ◌∷◌, ◌++◌, ℕ, ◌+◌, ◌-◌, ◌*◌, length}
use Rattle.octets.specs.Pick.{pick}
use Rattle.octets.specs.Bytes.{le, zeros}
use Rattle.octets.specs.Compare.{same}
use Rattle.id.specs.Bytes.{id_bytes}
use Rattle.groups.specs.Group.{Pending, Group, longest_name, most_consumers, most_pending}

-- the place of a name among names
unfoldable pub place_of_name : List ℕ → List (List ℕ) → ℕ
place_of_name n [] = 0
place_of_name n (m ∷ ms) = pick (same n m) 0 (1 + place_of_name n ms)

abbrev pub entry_bytes : ℕ
entry_bytes = 27

-- where the parts of an entry begin, after its ID
abbrev pub place_at : ℕ
place_at = 16

abbrev pub time_at : ℕ
time_at = 17

abbrev pub count_at : ℕ
count_at = 25

unfoldable pub pending_bytes : List (List ℕ) → Pending → List ℕ
pending_bytes consumers p =
    id_bytes p.id ++ (place_of_name p.consumer consumers ∷ (le 8 p.time ++ le 2 p.count))

unfoldable pub all_pending : List (List ℕ) → List Pending → List ℕ
all_pending consumers [] = []
all_pending consumers (p ∷ ps) = pending_bytes consumers p ++ all_pending consumers ps

-- in a snapshot (01, Snapshot, kind 3)
abbrev pub name_bytes : List ℕ → List ℕ
name_bytes n = length n ∷ n

unfoldable pub all_names : List (List ℕ) → List ℕ
all_names [] = []
all_names (n ∷ ns) = name_bytes n ++ all_names ns

unfoldable pub body_bytes : Group → List ℕ
body_bytes g =
    name_bytes g.name
    ++ (id_bytes g.delivered
    ++ (length g.consumers ∷ (all_names g.consumers
    ++ (le 2 (length g.pending) ++ all_pending g.consumers g.pending))))

-- in a region of the state
abbrev pub padded : ℕ → List ℕ → List ℕ
padded n bs = bs ++ zeros (n - length bs)

abbrev pub field_bytes : ℕ
field_bytes = 1 + longest_name

abbrev pub name_field : List ℕ → List ℕ
name_field n = padded field_bytes (name_bytes n)

unfoldable pub all_name_fields : List (List ℕ) → List ℕ
all_name_fields [] = []
all_name_fields (n ∷ ns) = name_field n ++ all_name_fields ns

abbrev pub consumers_bytes : ℕ
consumers_bytes = most_consumers * field_bytes

abbrev pub pending_room : ℕ
pending_room = most_pending * entry_bytes

unfoldable pub region_bytes : Group → List ℕ
region_bytes g =
    name_field g.name
    ++ (id_bytes g.delivered
    ++ (length g.consumers ∷ (padded consumers_bytes (all_name_fields g.consumers)
    ++ (le 2 (length g.pending) ++ padded pending_room (all_pending g.consumers g.pending)))))

abbrev pub region_size : ℕ
region_size = 7220

-- where its parts begin
abbrev pub delivered_at : ℕ
delivered_at = 17

abbrev pub consumers_at : ℕ
consumers_at = 33

abbrev pub fields_at : ℕ
fields_at = consumers_at + 1

abbrev pub pending_at : ℕ
pending_at = 306

abbrev pub entries_at : ℕ
entries_at = pending_at + 2
