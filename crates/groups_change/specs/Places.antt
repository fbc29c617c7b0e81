-- Walks over the entries' bytes: the places of consumers, when one is put in or taken out, and the rows that are not of one. Assumes nothing.
use Rattle.std.specs.Prelude.{List, [], ◌++◌, ℕ, zero, suc, ◌+◌, ◌-◌, ◌%◌, ltb, eqb, take, drop, get_or, set}
use Rattle.octets.specs.Pick.{pick}
use Rattle.groups.specs.Bytes.{entry_bytes, place_at}

-- places from one on move up by add and down by sub
unfoldable pub moved_place : ℕ → ℕ → ℕ → ℕ → ℕ
moved_place from add sub x = pick (ltb x from) x ((x + add - sub) % 256)

-- the places of so many entries, each at its byte in the row
unfoldable pub places_moved : ℕ → ℕ → ℕ → ℕ → List ℕ → List ℕ
places_moved from add sub zero s = s
places_moved from add sub (suc n) s =
    take entry_bytes (set s place_at (moved_place from add sub (get_or s place_at 0))) ++ places_moved from add sub n (drop entry_bytes s)

-- the row at the start of s, unless it is of the consumer at place k
unfoldable pub row_kept : ℕ → List ℕ → List ℕ
row_kept k s = pick (eqb (get_or s place_at 0) k) [] (take entry_bytes s)

-- such rows of so many entries, one after the other
unfoldable pub rows_of_others : ℕ → ℕ → List ℕ → List ℕ
rows_of_others k zero s = []
rows_of_others k (suc n) s = row_kept k s ++ rows_of_others k n (drop entry_bytes s)
