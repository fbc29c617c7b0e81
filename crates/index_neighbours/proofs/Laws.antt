-- What callers cite of the operations on a record. Their laws on entries are in the crate keys, those of a record and its entries in
-- radix, and every list of calls in wallathi_index. Assumes nothing.
use mathlib.Core.Bool.{true}
use mathlib.Core.Path.{◌≡◌}
use mathlib.Core.List.{List}
use Rattle.std.proofs.Common.{Some}
use Prim.Native.Nat.{ℕ, ◌^◌, ◌<◌, ◌≤◌}
use lib.ListN.{length}
use Rattle.radix.specs.declared.Index.{Index}
use Rattle.keys.specs.Entries.{Entry, is_key, insert}
use Rattle.keys.proofs.Laws.{full_not, map_insert}
use Rattle.radix.specs.Shape.{node_count}
use Rattle.radix.specs.Record.{entries_of}
use Rattle.radix.proofs.Laws.{entries_map, nodes_suffice}

-- below 64 keys a put is done (put_below_64), and its shape has room in the pool
pub put_has_room : (x : Index) (es : List Entry) (k : List ℕ) (v : ℕ) → entries_of x ≡ Some es → is_key k ≡ true → v < 2 ^ 32 → length es < 64 → node_count (insert k v es) ≤ 254
put_has_room x es k v e p w l =
    nodes_suffice (insert k v es) (map_insert k v es (entries_map x es e) p w (full_not k es l))
