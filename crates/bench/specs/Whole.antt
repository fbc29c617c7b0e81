-- A whole listpack, read as the strings of a message are. Assumes nothing.
use Rattle.std.specs.Prelude.{ℕ, Bool, List, [], ◌∷◌, length, drop, ◌==◌, nat_le}
use Rattle.octets.specs.Pick.{both}
use Rattle.octets.specs.Bytes.{le_value}
use Rattle.octets.specs.Place.{area}
use Rattle.octets.specs.Compare.{same}
use Rattle.listpack.specs.AtPlace.{end_after}

-- its length and its end byte are right, and its strings have at most 1,000 bytes
unfoldable pub holds_strings : List ℕ → Bool
holds_strings s =
    both (both (nat_le 7 (length s)) (le_value (area 0 4 s) == length s))
    (same (drop (end_after (le_value (area 4 2 s)) s 6) s) (255 ∷ []))
