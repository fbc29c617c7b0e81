-- What the functions answer. Assumes nothing.
use Rattle.std.specs.Prelude.{Bool, true, List, [], ◌∷◌, ℕ, zero, suc, ◌+◌, ◌*◌, leb, eqb, length, drop, get_or, Option, Some, None}
use Rattle.octets.specs.Pick.{pick, both}
use Rattle.octets.specs.Maybe.{◌>>=◌}
use Rattle.octets.specs.Bytes.{le_value}
use Rattle.octets.specs.Place.{area}
use Rattle.id.specs.declared.Id.{Id}
use Rattle.id.specs.Id.{least}
use Rattle.groups.specs.Group.{Group, longest_name, most_pending}
use Rattle.groups.specs.Bytes.{entry_bytes, region_bytes}
use Rattle.groups.specs.Parse.{name_in, are_entries}
use Rattle.octets.specs.Compare.{comes_before}

-- a body that is read: the region has the group's bytes, or its own where there is none
abbrev pub read_into : Option Group → List ℕ → List ℕ
read_into None r = r
read_into (Some g) r = region_bytes g

-- a name of 1 to 16 bytes after its length, at the start of s
unfoldable pub is_name_at : List ℕ → Bool
is_name_at s = both (both (leb 1 (get_or s 0 0)) (leb (get_or s 0 0) longest_name)) (leb (1 + get_or s 0 0) (length s))

-- so many such names, one after the other, and that they are
unfoldable pub names_at : ℕ → List ℕ → List (List ℕ)
names_at zero s = []
names_at (suc n) s = name_in s ∷ names_at n (drop (1 + get_or s 0 0) s)

unfoldable pub are_names_at : ℕ → List ℕ → Bool
are_names_at zero s = true
are_names_at (suc n) s = both (is_name_at s) (are_names_at n (drop (1 + get_or s 0 0) s))

-- where the name at a place ends, if there is one above another
unfoldable pub name_end : List ℕ → ℕ → List ℕ → Option ℕ
name_end above at s = pick (both (is_name_at (drop at s)) (comes_before above (name_in (drop at s)))) (Some (at + 1 + get_or s at 0)) None

-- where so many names at a place end, if they are there and rise above one
unfoldable pub names_end : List ℕ → ℕ → ℕ → List ℕ → Option ℕ
names_end above at zero s = Some at
names_end above at (suc n) s = name_end above at s >>= λ end. names_end (name_in (drop at s)) end n s

-- the number of entries and the entries, to the end
unfoldable pub entries_end : ℕ → Id → List ℕ → Bool
entries_end consumers most s =
    let n : ℕ = le_value (area 0 2 s) in
    both (leb 2 (length s))
    (both (leb n most_pending) (both (eqb (length (drop 2 s)) (n * entry_bytes)) (are_entries consumers least most n (drop 2 s))))
