-- A record written. Assumes nothing.
use mathlib.Core.Path.{◌≡◌, sym, ap, ◌∙◌}
use mathlib.Core.List.{List}
use Rattle.std.proofs.Common.{Some}
use Prim.Native.Nat.{ℕ}
use Rattle.keys.specs.Entries.{Entry}
use Rattle.radix.specs.Record.{entries_of}
use Rattle.radix.specs.Layout.{record_of}
use Rattle.radix_bytes.specs.Bytes.{bytes_of, record_from}
use Rattle.index_bytes.specs.Held.{entries_in, entries_in_lem, record_bytes, record_bytes_lem}

pub written : (es : List Entry) (t : List ℕ) → entries_of (record_of es) ≡ Some es → (t ≡ bytes_of (record_of es)) × (record_from t ≡ record_of es) → (t ≡ record_bytes es) × (entries_in t ≡ Some es)
written es t h w = (w.0 ∙ sym (record_bytes_lem es), entries_in_lem t ∙ ap entries_of w.1 ∙ h)
