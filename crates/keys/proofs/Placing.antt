-- The rows of a table after a put or a remove, by the key's place among them. Assumes nothing.
use mathlib.Core.Bool.{Bool, true, false}
use mathlib.Core.Path.{◌≡◌, refl, sym, ap, ◌∙◌}
use mathlib.Core.List.{List, [], ◌∷◌, ◌++◌}
use Prim.Native.Nat.{ℕ, ◌+◌, ◌*◌, ◌^◌, ◌≤◌, ◌<◌}
use native.Mathlib.Nat.{zero-add}
use native.Mathlib.Numerals.{add-one}
use native.Mathlib.Omega.{arith}
use borrow.Author.Tests.{ltb-true, ltb-false, le-leb, lt-leb}
use lib.Dec.{ltb, leb}
use lib.ListN.{length, take, drop, get_or}
use Rattle.octets.specs.Pick.{both}
use Rattle.std.proofs.Common.{is_none}
use Rattle.octets.specs.Place.{area}
use Rattle.octets.specs.Compare.{same}
use Rattle.keys.specs.Entries.{Entry, entry, is_key, is_map, rising, most_keys, lookup, has, insert, without, length_of}
use Rattle.keys.specs.Rank.{rank}
use Rattle.keys.specs.Table.{Columns, row_at, rows_from}
use Rattle.keys.proofs.Fits.{map_rising}
use Rattle.keys.proofs.Maps.{has_none, has_some}
use Rattle.keys.proofs.Positions.{insert_new, insert_held, without_held, has_row, has_end}
use Rattle.keys.proofs.Kept.{map_insert}
use Rattle.keys.proofs.Rows.{length_rows, rows_get}

-- the row at a key's place has the key, or it is not held
pub is_held : (t : Columns) (n : ℕ) (k : List ℕ) (i : ℕ) → rising (rows_from t 0 n) ≡ true → i ≡ rank k (rows_from t 0 n)
    → both (ltb i n) (same k (area (16 * i) (length_of t.len i) t.key)) ≡ has k (rows_from t 0 n)
is_held t n k i r e = go (ltb i n) refl
  where
    es : List Entry
    es = rows_from t 0 n

    go : (u : Bool) → ltb i n ≡ u → both (ltb i n) (same k (area (16 * i) (length_of t.len i) t.key)) ≡ has k (rows_from t 0 n)
    go true f =
        let l : i < n = ltb-true i n f in
        let q : get_or (rows_from t 0 n) i (entry [] 0) ≡ row_at t i = rows_get t i 0 n (entry [] 0) l ∙ ap (row_at t) (zero-add i) in
        rw f
        (ap (λ (y : Entry). same k y.key) (sym q)
        ∙ ap (λ (j : ℕ). same k (get_or (rows_from t 0 n) j (entry [] 0)).key) e
        ∙ sym (has_row k (rows_from t 0 n) r (entry [] 0) (omega (arith, length_rows t 0 n))))
    go false f =
        let l : n ≤ i = ltb-false i n f in
        rw f (sym (has_end k (rows_from t 0 n) r (omega (arith, length_rows t 0 n))))

-- a new key does not find 64 held, or a held key is replaced
abbrev pub no_room : List ℕ → List Entry → Bool
no_room k es = both (is_none (lookup k es)) (leb most_keys (length es))

pub room_held : (k : List ℕ) (es : List Entry) → has k es ≡ true → no_room k es ≡ false
room_held k es e = rw (has_some k es e).1

pub room_new : (k : List ℕ) (es : List Entry) → has k es ≡ false → length es < 64 → no_room k es ≡ false
room_new k es e l = rw (has_none k es e, lt-leb 64 (length es) l)

pub room_full : (k : List ℕ) (es : List Entry) → has k es ≡ false → 64 ≤ length es → no_room k es ≡ true
room_full k es e l = rw (has_none k es e, le-leb 64 (length es) l)

module _ (es : List Entry) (m : is_map es ≡ true) (k : List ℕ) (p : is_key k ≡ true) (i : ℕ) (e : i ≡ rank k es) where
  -- the entries after a put, as the table's rows
  module _ (v : ℕ) (w : v < 2 ^ 32) where
    pub held_rows : has k es ≡ true → take i es ++ (entry k v ∷ drop (i + 1) es) ≡ insert k v es
    held_rows f = rw (e, add-one (rank k es)) (sym (insert_held k v es (map_rising es m) f))

    pub new_rows : has k es ≡ false → take i es ++ (entry k v ∷ drop i es) ≡ insert k v es
    new_rows f = rw e (sym (insert_new k v es f))

    pub held_map : has k es ≡ true → is_map (insert k v es) ≡ true
    held_map f = map_insert k v es m p w (room_held k es f)

    pub new_map : has k es ≡ false → length es < 64 → is_map (insert k v es) ≡ true
    new_map f l = map_insert k v es m p w (room_new k es f l)

  pub gone_rows : has k es ≡ true → take i es ++ drop (i + 1) es ≡ without k es
  gone_rows f = rw (e, add-one (rank k es)) (sym (without_held k es (map_rising es m) f))
