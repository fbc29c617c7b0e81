-- What a record of bytes holds, and the bytes of a record that holds given entries. Both are shut: callers know the laws of proofs/Laws.
-- Assumes nothing.
use Rattle.std.specs.Prelude.{◌≡◌, refl, List, ℕ, Option}
use Rattle.keys.specs.Entries.{Entry}
use Rattle.radix.specs.Record.{entries_of}
use Rattle.radix.specs.Layout.{record_of}
use Rattle.radix_bytes.specs.Bytes as layout
use Rattle.radix_bytes.specs.Bytes.{bytes_of, record_from}

-- how many bytes a record has: 6,658
abbrev pub record_size : ℕ
record_size = layout.record_size

-- the entries; none, where the bytes are not the shape of any key set
pub entries_in : List ℕ → Option (List Entry)
entries_in s = entries_of (record_from s)

-- the same, opened for this crate's proofs
pub entries_in_lem : (s : List ℕ) → entries_in s ≡ entries_of (record_from s)
unfolding entries_in
entries_in_lem s = refl

-- the bytes that are written for entries: the places of the pool are a free choice, and this is the one that is made
pub record_bytes : List Entry → List ℕ
record_bytes es = bytes_of (record_of es)

pub record_bytes_lem : (es : List Entry) → record_bytes es ≡ bytes_of (record_of es)
unfolding record_bytes
record_bytes_lem es = refl
