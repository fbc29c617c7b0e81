-- Entries as rows of a table: at most 64, of at most 16 bytes each.
--
--     row    len   val   key
--      0      3     7    f o o                the key of row i at 16 i
--      1      6     9    f o o b a r
--     others  0     0
--
-- Assumes nothing.
use Rattle.std.specs.Prelude.{List, [], ◌∷◌, ◌++◌, ℕ, zero, suc, ◌+◌, ◌*◌, ◌-◌, get_or, length, set}
use Rattle.octets.specs.Bytes.{zeros}
use Rattle.octets.specs.Place.{area, put}
use Rattle.keys.specs.Entries.{Entry, entry}
pub use Rattle.keys.specs.Entries.{length_of}
use Rattle.keys.specs.declared.Table.{Table}

pub record Columns : Type 0 where
  pub len : List ℕ
  pub val : List ℕ
  pub key : List ℕ

abbrev pub columns : List ℕ → List ℕ → List ℕ → Columns
columns len val key = record { len = len; val = val; key = key }

abbrev pub row_at : Columns → ℕ → Entry
row_at t i = entry (area (16 * i) (length_of t.len i) t.key) (get_or t.val i 0)

-- n rows from i on
unfoldable pub rows_from : Columns → ℕ → ℕ → List Entry
rows_from t i zero = []
rows_from t i (suc n) = row_at t i ∷ rows_from t (i + 1) n

-- the entries of a table
abbrev pub tabled : Table → List Entry
tabled t = rows_from (columns t.len t.val t.key) 0 t.n

-- xs, and zeros after them to n
abbrev pub filled : ℕ → List ℕ → List ℕ
filled n xs = xs ++ zeros (n - length xs)

unfoldable pub length_column : List Entry → List ℕ
length_column [] = []
length_column (e ∷ es) = length e.key ∷ length_column es

unfoldable pub value_column : List Entry → List ℕ
value_column [] = []
value_column (e ∷ es) = e.value ∷ value_column es

-- 16 bytes a key
unfoldable pub key_column : List Entry → List ℕ
key_column [] = []
key_column (e ∷ es) = filled 16 e.key ++ key_column es

unfoldable pub columns_of : List Entry → Columns
columns_of es = columns (filled 64 (length_column es)) (filled 64 (value_column es)) (filled 1024 (key_column es))

abbrev pub table_by : ℕ → Columns → Table
table_by n c = record { n = n; len = c.len; val = c.val; key = c.key }

-- the table of at most 64 entries: zeros after each key and past the last row
abbrev pub table_of : List Entry → Table
table_of es = table_by (length es) (columns_of es)

-- a row written at i
abbrev pub with_row : Columns → ℕ → List ℕ → ℕ → Columns
with_row c i k v = columns (set c.len i (length k)) (set c.val i v) (put c.key (16 * i) k)

-- a table with one row more
abbrev pub appended : Table → List ℕ → ℕ → Table
appended t k v = table_by (t.n + 1) (with_row (columns t.len t.val t.key) t.n k v)
