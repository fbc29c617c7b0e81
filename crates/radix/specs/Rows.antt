-- What the code asks of the rows of a table, on its columns. Assumes nothing.
use Rattle.std.specs.Prelude.{◌≡◌, Bool, true, List, ℕ, zero, suc, ◌+◌, ◌*◌, ◌-◌, ◌≤◌, ◌<◌, eqb, length, get_or}
use Rattle.octets.specs.Pick.{pick}
use Rattle.octets.specs.Place.{area}
use Rattle.keys.specs.Entries.{Entry, rising, length_of}
use Rattle.radix.specs.Shape.{common, cut, nodes}
use Rattle.keys.specs.Table.{Columns, rows_from}
use Rattle.radix.specs.Sprout.{sprout}

-- how many of the n rows from i on have the byte c at d, before one that has not
unfoldable pub alike_at : List ℕ → ℕ → ℕ → ℕ → ℕ → ℕ
alike_at key d c i zero = 0
alike_at key d c i (suc n) = pick (eqb (get_or key (16 * i + d) 0) c) (suc (alike_at key d c (i + 1) n)) 0

-- how many bytes two rows share after the first d
abbrev pub share_at : List ℕ → List ℕ → ℕ → ℕ → ℕ → ℕ
share_at len key d a b = length (common (area (16 * a + d) (length_of len a - d) key) (area (16 * b + d) (length_of len b - d) key))

-- the entries of the rows from a on, and before b, without their first d bytes
abbrev pub rest_at : Columns → ℕ → ℕ → ℕ → List Entry
rest_at t d a b = cut d (rows_from t a (b - a))

-- rows to lay, from place `at` on: longer than d bytes, rising, with room in the pool
pub record Ready (t : Columns) (left : ℕ) (first : Bool) (a b d at : ℕ) : Type 0 where
  pub order : a ≤ b
  pub most : b ≤ 64
  pub deep : d ≤ 16
  pub keys : length t.key ≡ 1024
  pub long : (i : ℕ) → a ≤ i → i < b → d < length_of t.len i
  pub rises : rising (rest_at t d a b) ≡ true
  pub room : at + nodes (sprout left first (rest_at t d a b)) ≤ 256
