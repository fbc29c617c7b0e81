-- How many nodes a shape has, and how many a key's path: "With k ≥ 1 keys at most 4k − 2 nodes, 254 for 64"; 17 on a path. Assumes nothing.
use mathlib.Core.Path.{◌≡◌, refl, sym, ap, ◌∙◌, subst}
use mathlib.Core.Bool.{Bool, true, false, true≢false}
use mathlib.Core.List.{List, [], ◌∷◌}
use Rattle.std.proofs.Common.{Option, Some, None}
use Prim.Native.Nat.{ℕ, suc, ◌+◌, ◌*◌, ◌≤◌}
use native.Mathlib.Omega.{arith}
use lib.ListN.{length, drop, length-append, length-drop}
use Rattle.octets.specs.Pick.{pick, both}
use Rattle.keys.specs.Entries.{Entry, is_map}
use Rattle.radix.specs.Shape.{Shape, nil, node, own_entry, entries_below, longer, prefix_of, branch, children_of, shape, nodes, node_count, starts_with, path_of, path_length}
use Rattle.radix.specs.Canon.{is_nil, is_end, is_held}
use Rattle.radix.proofs.Under.{under, remainders, entries_node, length_under}
use Rattle.keys.proofs.Laws.{map_length}
use Rattle.radix.proofs.Rules.{Rules, leaf, only, one_of, NotEmpty, length_some}
use Rattle.radix.proofs.Back.{shape_back, shape_rules}

keys : Shape → ℕ
keys s = length (entries_below [] s)

own_keys : Option ℕ → ℕ
own_keys v = length (own_entry [] v)

keys_node : (l : List ℕ) (v : Option ℕ) (below later : Shape) → keys (node l v below later) ≡ own_keys v + keys below + keys later
unfolding keys own_keys
keys_node l v below later =
    ap length (entries_node [] l v below later)
    ∙ length-append (under l (remainders v below)) (entries_below [] later)
    ∙ ap (λ (n : ℕ). n + length (entries_below [] later)) (length_under l (remainders v below) ∙ length-append (own_entry [] v) (entries_below [] below))

-- siblings
width : Shape → ℕ
width nil = 0
width (node l v below later) = 1 + width later

-- what is left of four nodes to a key: 2 for each of several children, 3 for an only one
spare : Bool → Shape → ℕ
spare first nil = 0
spare first (node l v below later) = pick (both first (is_nil later)) 3 (2 + 2 * width later)

spare_siblings : (s : Shape) → spare false s ≡ 2 * width s
unfolding spare width
spare_siblings nil = refl
spare_siblings (node l v below later) = omega arith

spare_end : (v : Option ℕ) (below : Shape) → is_end v below ≡ true → 4 ≤ 4 * own_keys v + spare true below
unfolding spare width own_keys
spare_end (Some v) below h = omega arith
spare_end None nil h = absurd (true≢false (sym h))
spare_end None (node l v below nil) h = absurd (true≢false (sym h))
spare_end None (node l v below (node l' v' below' later)) h = omega arith

spare_held : (v : Option ℕ) (below : Shape) → is_held v below ≡ true → 3 ≤ 4 * own_keys v + spare true below
unfolding spare width own_keys
spare_held (Some v) below h = omega arith
spare_held None nil h = absurd (true≢false (sym h))
spare_held None (node l v below nil) h = omega arith
spare_held None (node l v below (node l' v' below' later)) h = omega arith

spare_nodes : {first : Bool} {least : ℕ} {s : Shape} → Rules first least s → nodes s + spare first s ≤ 4 * keys s
unfolding nodes spare
spare_nodes leaf = omega arith
spare_nodes (only {a = a} {l = l} {v = v} {below = below} e b) =
    omega (arith, keys_node (a ∷ l) v below nil, spare_end v below e, spare_nodes b)
spare_nodes (one_of {a = a} {v = v} {below = below} {later = later} n h e b m) =
    rw n (omega (arith, keys_node (a ∷ []) v below later, spare_held v below e, spare_nodes b, spare_nodes m, spare_siblings later))

spare_some : (s : Shape) → NotEmpty (entries_below [] s) → 3 ≤ spare true s
unfolding entries_below spare width
spare_some nil h = absurd h
spare_some (node l v below nil) h = omega arith
spare_some (node l v below (node l' v' below' later)) h = omega arith

pub children_nodes : {s : Shape} → Rules true 0 s → NotEmpty (entries_below [] s) → nodes s + 3 ≤ 4 * length (entries_below [] s)
unfolding keys
children_nodes {s} r h = omega (arith, spare_nodes r, spare_some s h)

pub shape_nodes : (es : List Entry) → is_map es ≡ true → 1 ≤ length es → nodes (shape es) + 3 ≤ 4 * length es
shape_nodes es m h =
    let b = shape_back es m in
    omega (arith, children_nodes (shape_rules es m) (subst NotEmpty (sym b) (length_some es h)), ap length b)

pub count_none : node_count [] ≡ 1
unfolding node_count nodes shape children_of branch prefix_of longer
count_none = refl

pub nodes_suffice : (es : List Entry) → is_map es ≡ true → node_count es ≤ 254
unfolding node_count
nodes_suffice [] m = omega (arith, count_none)
nodes_suffice (e ∷ es) m = omega (arith, shape_nodes (e ∷ es) m (omega arith), map_length (e ∷ es) m)

-- each node on a path takes a byte of the key at least
path_step : (a : ℕ) (l k : List ℕ) (t : Bool) (x y : List (List ℕ)) → starts_with (a ∷ l) k ≡ t
    → length x ≤ length (drop (suc (length l)) k) → length y ≤ length k → length (pick t ((a ∷ l) ∷ x) y) ≤ length k
unfolding starts_with
path_step a l [] true x y e p q = absurd (true≢false (sym e))
path_step a l (b ∷ k) true x y e p q = omega (arith, length-drop (length l) k)
path_step a l k false x y e p q = q

pub path_short : {first : Bool} {least : ℕ} {s : Shape} → Rules first least s → (k : List ℕ) → length (path_of s k) ≤ length k
unfolding path_of
path_short leaf k = omega arith
path_short (only {a = a} {l = l} {below = below} e b) k =
    path_step a l k (starts_with (a ∷ l) k) (path_of below (drop (suc (length l)) k)) [] refl (path_short b (drop (suc (length l)) k)) (omega arith)
path_short (one_of {a = a} {below = below} {later = later} n h e b m) k =
    path_step a [] k (starts_with (a ∷ []) k) (path_of below (drop 1 k)) (path_of later k) refl (path_short b (drop 1 k)) (path_short m k)

pub path_most : (es : List Entry) → is_map es ≡ true → (k : List ℕ) → length k ≤ 16 → path_length es k ≤ 17
unfolding path_length
path_most es m k h = omega (arith, path_short (shape_rules es m) k)
