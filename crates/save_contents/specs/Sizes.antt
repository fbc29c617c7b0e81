-- The contents of a snapshot, worked out from the sizes of the bodies alone, before any body is there. Assumes nothing.
use Rattle.std.specs.Prelude.{List, [], ◌∷◌, ◌++◌, ℕ, ◌+◌, ◌*◌, length}
use Rattle.octets.specs.Bytes.{le}

-- an entry of the contents (01, Snapshot): kind, offset, length
unfoldable pub row_of : ℕ → ℕ → ℕ → List ℕ
row_of kind offset size = kind ∷ (le 4 offset ++ le 4 size)

-- entries of bodies back to back. The sizes are of what comes after the first `head` bytes of each body: a node's key is not measured
unfoldable pub rows_of : ℕ → ℕ → ℕ → List ℕ → List ℕ
rows_of kind head offset [] = []
rows_of kind head offset (n ∷ ns) = row_of kind offset (head + n) ++ rows_of kind head (offset + (head + n)) ns

-- how many bytes these bodies take
unfoldable pub size_of : ℕ → List ℕ → ℕ
size_of head [] = 0
size_of head (n ∷ ns) = head + n + size_of head ns

-- version, count and entries, by the sizes of nodes and groups
unfoldable pub table_of : List ℕ → List ℕ → List ℕ
table_of ns gs =
    let first : ℕ = 12 + (length ns + length gs) * 9 in
    1 ∷ (le 2 (1 + (length ns + length gs))
    ++ (row_of 1 first 16 ++ (rows_of 2 16 (first + 16) ns ++ rows_of 3 0 (first + 16 + size_of 16 ns) gs)))

-- the whole file
unfoldable pub file_size : List ℕ → List ℕ → ℕ
file_size ns gs = 28 + (length ns + length gs) * 9 + (size_of 16 ns + size_of 0 gs)
