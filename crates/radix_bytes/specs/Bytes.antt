-- The record of an index as bytes, for hosts that keep it in lent bytes; numbers little-endian:
--
--     | root | len | key | child   | next    | val     | label |
--       2      256   256   2 × 256   2 × 256   4 × 256   4,096       6,658 in all
--
-- Each undoes the other on records whose arrays are as long as that, with elements of their types: proofs/Laws. Assumes nothing.
use Rattle.std.specs.Prelude.{List, [], ◌∷◌, ◌++◌, ℕ, zero, suc, ◌+◌, ◌*◌, ◌^◌, ◌<◌}
use Rattle.octets.specs.Bytes.{le, le_value}
use Rattle.octets.specs.Place.{area}
use Rattle.radix.specs.declared.Index.{Index}
use Rattle.radix.specs.Record.{Nodes, nodes_of}

-- where each field begins, but the root's place
abbrev pub lens_at : ℕ
lens_at = 2

abbrev pub keys_at : ℕ
keys_at = 258

abbrev pub children_at : ℕ
children_at = 514

abbrev pub nexts_at : ℕ
nexts_at = 1026

abbrev pub values_at : ℕ
values_at = 1538

abbrev pub labels_at : ℕ
labels_at = 2562

abbrev pub record_size : ℕ
record_size = 6658

-- numbers of w bytes each, one after the other
unfoldable pub word_bytes : ℕ → List ℕ → List ℕ
word_bytes w [] = []
word_bytes w (v ∷ vs) = le w v ++ word_bytes w vs

-- n of them from at on
unfoldable pub words_at : ℕ → List ℕ → ℕ → ℕ → List ℕ
words_at w s at zero = []
words_at w s at (suc n) = le_value (area at w s) ∷ words_at w s (at + w) n

unfoldable pub bytes_of : Index → List ℕ
bytes_of x =
    le 2 x.root
    ++ (x.len ++ (x.key ++ (word_bytes 2 x.child ++ (word_bytes 2 x.next ++ (word_bytes 4 x.val ++ x.label)))))

unfoldable pub record_from : List ℕ → Index
record_from s =
    record {
      root = le_value (area 0 2 s);
      len = area lens_at 256 s;
      key = area keys_at 256 s;
      child = words_at 2 s children_at 256;
      next = words_at 2 s nexts_at 256;
      val = words_at 4 s values_at 256;
      label = area labels_at 4096 s;
    }

-- the pool in it
abbrev pub pool_in : List ℕ → Nodes
pool_in s = nodes_of (record_from s)

-- every number has w bytes at most
abbrev pub Fit : ℕ → List ℕ → Type 0
Fit w [] = Unit {0}
Fit w (v ∷ vs) = (v < 2 ^ (8 * w)) × Fit w vs
