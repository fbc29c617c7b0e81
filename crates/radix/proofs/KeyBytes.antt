-- The keys of a record whose labels are bytes are bytes. Assumes nothing.
use mathlib.Core.Bool.{Bool, true, false}
use mathlib.Core.List.{List, ◌++◌}
use Rattle.std.proofs.Common.{Option, Some, None}
use Prim.Native.Nat.{ℕ, zero, suc, ◌*◌}
use lib.Dec.{ltb}
use lib.ListN.{get_or}
use Rattle.octets.specs.Pick.{pick}
use Rattle.octets.specs.Bytes.{Bytes}
use Rattle.octets.proofs.Laws.{bytes_area, bytes_append}
use Rattle.keys.specs.Entries.{length_of}
use Rattle.keys.proofs.Laws.{Keys, keys_append}
use Rattle.radix.specs.Shape.{Shape, nil, node, own_entry, entries_below}
use Rattle.radix.specs.Record.{Nodes, label_of, value_of, tree_at}

abbrev pub LabelBytes : Shape → Type 0
LabelBytes nil = Unit {0}
LabelBytes (node l v below later) = Bytes l × (LabelBytes below × LabelBytes later)

pub tree_bytes : (most : ℕ) (x : Nodes) (link : ℕ) → Bytes x.label → LabelBytes (tree_at most x link)
unfolding tree_at
tree_bytes zero x link h = tt
tree_bytes (suc most) x zero h = tt
tree_bytes (suc most) x (suc p) h = go (ltb p 256) (tree_bytes most x (get_or x.child p 0) h) (tree_bytes most x (get_or x.next p 0) h)
  where
    go : (t : Bool) → LabelBytes (tree_at most x (get_or x.child p 0)) → LabelBytes (tree_at most x (get_or x.next p 0))
        → LabelBytes (pick t (node (label_of x p) (value_of x p) (tree_at most x (get_or x.child p 0)) (tree_at most x (get_or x.next p 0))) nil)
    go true b l = (bytes_area (16 * p) (length_of x.len p) h, (b, l))
    go false b l = tt

own_bytes : (k : List ℕ) (v : Option ℕ) → Bytes k → Keys Bytes (own_entry k v)
own_bytes k None h = tt
own_bytes k (Some v) h = (h, tt)

pub entries_bytes : (before : List ℕ) (s : Shape) → Bytes before → LabelBytes s → Keys Bytes (entries_below before s)
unfolding entries_below
entries_bytes before nil h b = tt
entries_bytes before (node l v below later) h b =
    let k = bytes_append h b.0 in
    keys_append Bytes (own_entry (before ++ l) v) (entries_below (before ++ l) below ++ entries_below before later) (own_bytes (before ++ l) v k)
    (keys_append Bytes (entries_below (before ++ l) below) (entries_below before later) (entries_bytes (before ++ l) below k b.1.0) (entries_bytes before later h b.1.1))
