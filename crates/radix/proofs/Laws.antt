-- What callers cite of a record and its entries. Assumes nothing.
use Rattle.octets.proofs.Laws.{bytes_nil}
use Rattle.octets.specs.Bytes.{Bytes}
use Rattle.radix.proofs.KeyBytes.{tree_bytes, entries_bytes}
use Rattle.radix.proofs.Fields.{fields_of_lem}
use Rattle.radix.proofs.FieldBytes.{children_bytes, laid_bytes, blank_bytes}
use mathlib.Core.Bool.{true}
use mathlib.Core.Path.{◌≡◌, sym, ap, ◌∙◌, subst, subst⁻¹}
use mathlib.Core.List.{List, [], ◌++◌}
use Rattle.std.proofs.Common.{Some}
use Rattle.octets.proofs.Options.{some_injective}
use Prim.Native.Nat.{ℕ, ◌+◌, ◌*◌, ◌≤◌}
use native.Mathlib.Omega.{arith}
use borrow.Author.Tests.{leb-true}
use lib.Dec.{leb}
use lib.ListN.{length, get_or}
use Rattle.radix.specs.declared.Index.{Index}
use Rattle.keys.specs.Entries.{Entry, is_map, rising, all_fit}
use Rattle.radix.specs.Shape.{Shape, nil, node, shape, nodes, entries_below}
use Rattle.radix.specs.Record.{tree_of, is_placed, held_in, entries_of, entries_is, nodes_of}
use Rattle.radix.specs.Gathering.{with_own, gathered}
use Rattle.radix.specs.Layout.{blank, place_shape, record_of, record_is}
use Rattle.keys.proofs.Laws.{map_length, map_rising, map_fit, Keys}
use Rattle.radix.proofs.Bounds.{shape_nodes}
use Rattle.radix.proofs.Whole.{need_some, bind_some, shape_held, held_map}
use Rattle.radix.proofs.Built.{nodes_most}
use Rattle.radix.proofs.Cells.{Labels}
use Rattle.radix.proofs.Readback.{shape_placed, shape_tree}
-- what the walks of radix_walk stand on: keys by their first bytes, labels, the rules of a shape, a step down a tree
pub use Rattle.radix.proofs.Keys.{From, StartsAt, keys_below, keys_under}
pub use Rattle.radix.proofs.Under.{under, remainders, entries_before, entries_node, remainders_under}
pub use Rattle.radix.proofs.Sorted.{before_over, before_under}
pub use Rattle.radix.proofs.Labels.{after_all, after_keep, before_all, before_keep, starts_append, starts_split}
pub use Rattle.radix.proofs.Rules.{Rules, NotEmpty, canonical_rules, end_held, held_entries, leaf, one_of, only, rules_from, rules_some, some_under}
pub use Rattle.radix.proofs.Turns.{Turn, step, find_below, find_fits, find_next, find_none, find_own, laid_on, leads_on_lem, leads_to, nil_leads, starts_all, starts_next, starts_short, starts_stop, tree_end, tree_nil, tree_node, tree_not, tree_out}
pub use Rattle.radix.proofs.Back.{shape_back, shape_canonical}
pub use Rattle.radix.proofs.Bounds.{nodes_suffice}
pub use Rattle.radix.proofs.Fields.{AllBelow, Fields}
pub use Rattle.radix.proofs.FieldBytes.{ByteFields}
-- find by a walk is lookup, and the rows of a record's tree
pub use Rattle.radix.proofs.Lookups.{shape_find}
pub use Rattle.radix.proofs.Whole.{shape_gathered, is_gathered}
pub use Rattle.radix.proofs.Listing.{root_within, tree_listed}
-- what a walk over a record tests, one node and one place at a time
pub use Rattle.radix.proofs.Local.{not_several, by_next, only_empty, only_key, only_parted, one_long, one_low, one_key, one_below}
pub use Rattle.radix.proofs.Tidy.{free_len, free_key, free_child, free_next, free_val, free_label, tidy_long, tidy_flag, tidy_tail, zero_part}
pub use Rattle.radix.proofs.Gathers.{gather_nil, gather_deep, gather_full, gather_below, gather_later, own_none, own_full, own_added}

labels_short : (before : List ℕ) (s : Shape) (old all : List Entry) → gathered before s old ≡ Some all → Labels s
unfolding gathered
labels_short before nil old all e = tt
labels_short before (node l v below later) old all e =
    let n = need_some (leb (length before + length l) 16) _ e in
    let o = bind_some (with_own (before ++ l) v old) _ n.1 in
    let b = bind_some (gathered (before ++ l) below o.0) (gathered before later) o.2 in
    (omega (arith, leb-true (length before + length l) 16 n.0), (labels_short (before ++ l) below o.0 b.0 b.1, labels_short before later b.0 all b.2))

-- a record made of a map holds it
pub record_back : (es : List Entry) → is_map es ≡ true → entries_of (record_of es) ≡ Some es
record_back es m =
    let l = labels_short [] (shape es) [] es (shape_gathered es m) in
    let h = nodes_most es m in
    ap entries_of (record_is es)
    ∙ entries_is (place_shape (shape es))
    ∙ rw (shape_placed (shape es) l (omega arith), shape_tree (shape es) l (omega arith)) (shape_held es m)

-- what a record holds is a map, and its tree the shape of it
pub record Holds (x : Index) (es : List Entry) : Type 0 where
  pub map : is_map es ≡ true
  pub tree : tree_of x ≡ shape es
  pub placed : is_placed x ≡ true

pub holds : (x : Index) (es : List Entry) → entries_of x ≡ Some es → Holds x es
holds x es e =
    let n = need_some (is_placed x) (held_in (tree_of x)) (sym (entries_is x) ∙ e) in
    let h = held_map (tree_of x) es n.1 in
    record { map = h.0; tree = h.1; placed = n.0 }

pub entries_map : (x : Index) (es : List Entry) → entries_of x ≡ Some es → is_map es ≡ true
entries_map x es e = (holds x es e).map

-- and a record in which the shape of a map is placed, each node at a place of its own and all others zero, holds the map
pub placement : (x : Index) (es : List Entry) → Holds x es → entries_of x ≡ Some es
placement x es h = entries_is x ∙ rw (h.placed, h.tree) (shape_held es h.map)

-- one record has one set of entries, and records of the same entries have the same tree
pub one_set : (x : Index) (es fs : List Entry) → entries_of x ≡ Some es → entries_of x ≡ Some fs → es ≡ fs
one_set x es fs e f = some_injective es fs (sym e ∙ f)

pub one_shape : (x y : Index) (es : List Entry) → entries_of x ≡ Some es → entries_of y ≡ Some es → tree_of x ≡ tree_of y
one_shape x y es e f = (holds x es e).tree ∙ sym (holds y es f).tree

-- the keys rise, there are at most 64, each has 1 to 16 bytes and a 32-bit value
pub record Sorted (es : List Entry) : Type 0 where
  pub rises : rising es ≡ true
  pub few : length es ≤ 64
  pub fit : all_fit es ≡ true

pub entries_sorted : (x : Index) (es : List Entry) → entries_of x ≡ Some es → Sorted es
entries_sorted x es e =
    let m = entries_map x es e in
    record { rises = map_rising es m; few = map_length es m; fit = map_fit es m }

-- with k keys, 1 at least, at most 4 k - 2 nodes, the root among them; so 254 of the pool's 256 always suffice
pub nodes_bound : (x : Index) (es : List Entry) → entries_of x ≡ Some es → 1 ≤ length es → 1 + nodes (tree_of x) + 2 ≤ 4 * length es
nodes_bound x es e l =
    let h = holds x es e in
    omega (arith, ap nodes h.tree, shape_nodes es h.map l)

-- what the types of a record's fields say, of one made of a map
pub record_fields : (es : List Entry) → is_map es ≡ true → Fields (record_of es)
record_fields es m = fields_of_lem es m (labels_short [] (shape es) [] es (shape_gathered es m))

-- the keys of a record whose labels are bytes are bytes
pub keys_bytes : (x : Index) (es : List Entry) → Bytes x.label → entries_of x ≡ Some es → Keys Bytes es
keys_bytes x es h e =
    let k = holds x es e in
    subst (Keys Bytes) (ap (entries_below []) k.tree ∙ shape_back es k.map)
    (entries_bytes [] (tree_of x) bytes_nil (tree_bytes 256 (nodes_of x) (get_or x.child x.root 0) h))

-- and so are the fields of a record made of a map whose keys are bytes
pub record_byte_fields : (es : List Entry) → is_map es ≡ true → Keys Bytes es → ByteFields (nodes_of (record_of es))
unfolding place_shape shape
record_byte_fields es m k =
    let l = labels_short [] (shape es) [] es (shape_gathered es m) in
    let b = laid_bytes (shape es) 1 blank l (children_bytes 16 es k) blank_bytes in
    subst⁻¹ (λ (x : Index). ByteFields (nodes_of x)) (record_is es) (record { len = b.len; key = b.key; label = b.label })
