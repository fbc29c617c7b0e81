-- The record of an index, and the entries that it holds (01, The index). Flat arrays, an element a place of the pool, a label 16:
--
--     root    the place of the root
--     len     how many bytes the label that leads to the node has: 1 to 16, of the root 0
--     key     1 for a key node, else 0
--     val     the value of a key node, else 0
--     child   the link to the first child       a link is 0 for none, or 1 + place
--     next    the link to the next sibling
--     label   place p's at 16 p, zeros after it
--
-- {foo: 7, foobar: 9} with the root at place 0; any other places would do as well:
--
--     place   len  key  val  child  next  label
--       0      0    0    0     3     0                 root
--       1      3    1    9     0     0    b a r
--       2      3    1    7     2     0    f o o
--     others   0    0    0     0     0
--
-- Assumes nothing.
use Rattle.std.specs.Prelude.{Bool, true, false, ◌≡◌, refl, List, [], ℕ, zero, suc, ◌+◌, ◌*◌, ◌-◌, leb, ltb, eqb, get_or, set, Option, Some, None}
use Rattle.octets.specs.Pick.{pick, both}
use Rattle.octets.specs.Maybe.{need, ◌>>◌, ◌>>=◌}
use Rattle.octets.specs.Bytes.{zeros}
use Rattle.octets.specs.Place.{area}
use Rattle.octets.specs.Compare.{all_zero, same}
use Rattle.keys.specs.Entries.{Entry, is_map, length_of}
use Rattle.radix.specs.Shape.{Shape, nil, node, entries_below, shape}
use Rattle.radix.specs.declared.Index.{Index}

-- the pool, without the root's place
pub record Nodes : Type 0 where
  pub len : List ℕ
  pub key : List ℕ
  pub child : List ℕ
  pub next : List ℕ
  pub val : List ℕ
  pub label : List ℕ

abbrev pub nodes_of : Index → Nodes
nodes_of x = record { len = x.len; key = x.key; child = x.child; next = x.next; val = x.val; label = x.label }

abbrev pub label_of : Nodes → ℕ → List ℕ
label_of x p = area (16 * p) (length_of x.len p) x.label

abbrev pub value_of : Nodes → ℕ → Option ℕ
value_of x p = pick (eqb (get_or x.key p 0) 0) None (Some (get_or x.val p 0))

-- the node that a link leads to, with its later siblings; a link that leaves the pool leads nowhere. `tree` goes on from there
abbrev pub node_at : (ℕ → Shape) → Nodes → ℕ → Shape
node_at tree x zero = nil
node_at tree x (suc p) =
    pick (ltb p 256) (node (label_of x p) (value_of x p) (tree (get_or x.child p 0)) (tree (get_or x.next p 0))) nil

-- no path is followed further than `most` nodes
unfoldable pub tree_at : ℕ → Nodes → ℕ → Shape
tree_at zero x link = nil
tree_at (suc most) x link = node_at (tree_at most x) x link

-- whether that is a node
abbrev pub leads_on : ℕ → ℕ → Bool
leads_on most link = both (ltb 0 most) (both (ltb 0 link) (leb link 256))

-- a mark at every place that a link leads to, and at those that are reached from there; `go` goes on. None where the link leaves the
-- pool, or where a place has its mark already
abbrev pub mark_at : (ℕ → List ℕ → Option (List ℕ)) → List ℕ → List ℕ → ℕ → List ℕ → Option (List ℕ)
mark_at go child next zero marks = Some marks
mark_at go child next (suc p) marks =
    need (both (ltb p 256) (eqb (get_or marks p 0) 0)) >> (go (get_or child p 0) (set marks p 1) >>= go (get_or next p 0))

-- none, too, where a path has more than `most` nodes
unfoldable pub marks_from : ℕ → List ℕ → List ℕ → ℕ → List ℕ → Option (List ℕ)
marks_from zero child next link marks = need (eqb link 0) >> Some marks
marks_from (suc most) child next link marks = mark_at (marks_from most child next) child next link marks

-- a free place: every field is zero
unfoldable pub is_free : Nodes → ℕ → Bool
is_free x p =
    both (eqb (get_or x.len p 0) 0)
    (both (eqb (get_or x.key p 0) 0)
    (both (eqb (get_or x.child p 0) 0)
    (both (eqb (get_or x.next p 0) 0)
    (both (eqb (get_or x.val p 0) 0) (all_zero (area (16 * p) 16 x.label))))))

-- a key flag, and no value without it
abbrev pub is_flag : ℕ → ℕ → Bool
is_flag key val = pick (eqb key 0) (eqb val 0) (eqb key 1)

-- a place in use: besides, a label of at most 16 bytes and zeros after it
unfoldable pub is_tidy : Nodes → ℕ → Bool
is_tidy x p =
    both (leb (get_or x.len p 0) 16)
    (both (is_flag (get_or x.key p 0) (get_or x.val p 0)) (all_zero (area (16 * p + get_or x.len p 0) (16 - get_or x.len p 0) x.label)))

abbrev pub is_place : Nodes → List ℕ → ℕ → Bool
is_place x marks p = pick (eqb (get_or marks p 0) 0) (is_free x p) (is_tidy x p)

-- the root's place
abbrev pub is_root : Nodes → ℕ → Bool
is_root x p = both (eqb (get_or x.len p 0) 0) (both (eqb (get_or x.key p 0) 0) (eqb (get_or x.next p 0) 0))

-- the n places from p on; those with a mark are in use
unfoldable pub are_clean : Nodes → List ℕ → ℕ → ℕ → Bool
are_clean x marks p zero = true
are_clean x marks p (suc n) = both (is_place x marks p) (are_clean x marks (p + 1) n)

unfoldable pub same_value : Option ℕ → Option ℕ → Bool
same_value None None = true
same_value None (Some w) = false
same_value (Some v) None = false
same_value (Some v) (Some w) = eqb v w

unfoldable pub same_shape : Shape → Shape → Bool
same_shape nil nil = true
same_shape nil (node l v b t) = false
same_shape (node l v b t) nil = false
same_shape (node l v b t) (node m w c u) = both (both (same l m) (same_value v w)) (both (same_shape b c) (same_shape t u))

-- the entries of a tree that is the shape of them
unfoldable pub held_in : Shape → Option (List Entry)
held_in t = need (both (is_map (entries_below [] t)) (same_shape t (shape (entries_below [] t)))) >> Some (entries_below [] t)

-- the tree below the root
abbrev pub tree_of : Index → Shape
tree_of x = tree_at 256 (nodes_of x) (get_or x.child x.root 0)

-- the marks of the places in use, from the root on
abbrev pub marks_of : Index → Option (List ℕ)
marks_of x = marks_from 256 x.child x.next (get_or x.child x.root 0) (set (zeros 256) x.root 1)

abbrev pub are_fit : Index → Option (List ℕ) → Bool
are_fit x None = false
are_fit x (Some marks) = both (is_root (nodes_of x) x.root) (are_clean (nodes_of x) marks 0 256)

-- no place is used twice, and all others are zero
unfoldable pub is_placed : Index → Bool
is_placed x = both (ltb x.root 256) (are_fit x (marks_of x))

-- the entries that a record holds: those of its tree, where it is the shape of them
pub entries_of : Index → Option (List Entry)
entries_of x = need (is_placed x) >> held_in (tree_of x)

-- the same, opened for this crate's proofs
pub entries_is : (x : Index) → entries_of x ≡ (need (is_placed x) >> held_in (tree_of x))
unfolding entries_of
entries_is x = refl
