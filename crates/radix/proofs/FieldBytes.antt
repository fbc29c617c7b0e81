-- The fields of a record made of keys that are bytes are bytes: its labels are parts of keys. Assumes nothing.
use mathlib.Core.Bool.{Bool, true, false}
use mathlib.Core.List.{List, [], ◌∷◌}
use Rattle.std.proofs.Common.{Option, Some, None}
use Prim.Native.Nat.{ℕ, zero, suc, ◌+◌, ◌*◌, ◌<◌}
use native.Mathlib.Omega.{arith}
use lib.Dec.{leb, eqb}
use lib.ListN.{length}
use Rattle.octets.specs.Pick.{pick}
use Rattle.octets.specs.Bytes.{Bytes}
use Rattle.octets.proofs.Laws.{bytes_nil, bytes_cons, bytes_head, bytes_tail, bytes_drop, bytes_set, bytes_put, bytes_zeros}
use Rattle.keys.specs.Entries.{Entry, entry}
use Rattle.keys.proofs.Laws.{Keys}
use Rattle.radix.specs.Shape.{Shape, nil, node, nodes, common, prefix_of, longer, cut, first_byte, starting_with, not_starting_with, child, branch, children_of}
use Rattle.radix.specs.Record.{Nodes}
use Rattle.radix.specs.Layout.{flag_of, laid, blank}
use Rattle.radix.proofs.Cells.{Labels}
use Rattle.radix.proofs.KeyBytes.{LabelBytes}

-- the entries from which a shape is made are some of those given, or what is left of their keys
module _ (P : List ℕ → Type 0) where
  keys_longer : (es : List Entry) → Keys P es → Keys P (longer es)
  unfolding longer
  keys_longer [] h = tt
  keys_longer (e ∷ es) h = go e.key e.value h.0 (keys_longer es h.1)
    where
      go : (k : List ℕ) (v : ℕ) → P k → Keys P (longer es) → Keys P (longer (entry k v ∷ es))
      go [] v p ih = ih
      go (b ∷ k) v p ih = (p, ih)

  keys_starting : (b : ℕ) (es : List Entry) → Keys P es → Keys P (starting_with b es)
  unfolding starting_with
  keys_starting b [] h = tt
  keys_starting b (e ∷ es) h = go (eqb (first_byte e.key) b) (keys_starting b es h.1)
    where
      go : (t : Bool) → Keys P (starting_with b es) → Keys P (pick t (e ∷ starting_with b es) (starting_with b es))
      go true ih = (h.0, ih)
      go false ih = ih

  keys_others : (b : ℕ) (es : List Entry) → Keys P es → Keys P (not_starting_with b es)
  unfolding not_starting_with
  keys_others b [] h = tt
  keys_others b (e ∷ es) h = go (eqb (first_byte e.key) b) (keys_others b es h.1)
    where
      go : (t : Bool) → Keys P (not_starting_with b es) → Keys P (pick t (not_starting_with b es) (e ∷ not_starting_with b es))
      go true ih = ih
      go false ih = (h.0, ih)

keys_cut : (n : ℕ) (es : List Entry) → Keys Bytes es → Keys Bytes (cut n es)
unfolding cut
keys_cut n [] h = tt
keys_cut n (e ∷ es) h = (bytes_drop n h.0, keys_cut n es h.1)

-- a label is a common prefix of keys, or the first byte of one
common_bytes : (xs ys : List ℕ) → Bytes xs → Bytes (common xs ys)
unfolding common
common_bytes [] ys h = bytes_nil
common_bytes (x ∷ xs) [] h = bytes_nil
common_bytes (x ∷ xs) (y ∷ ys) h = go (eqb x y) (common_bytes xs ys (bytes_tail h))
  where
    go : (t : Bool) → Bytes (common xs ys) → Bytes (pick t (x ∷ common xs ys) [])
    go true ih = bytes_cons (bytes_head h) ih
    go false ih = bytes_nil

prefix_bytes : (es : List Entry) → Keys Bytes es → Bytes (prefix_of es)
unfolding prefix_of
prefix_bytes [] h = bytes_nil
prefix_bytes (e ∷ []) h = h.0
prefix_bytes (e ∷ (f ∷ es)) h = common_bytes e.key (prefix_of (f ∷ es)) h.0

first_small : (k : List ℕ) → Bytes k → first_byte k < 256
first_small [] h = omega arith
first_small (b ∷ k) h = bytes_head h

branch_bytes : (children : List Entry → Shape) → ((es : List Entry) → Keys Bytes es → LabelBytes (children es)) → (n : ℕ) (es : List Entry)
    → Keys Bytes es → LabelBytes (branch children n es)
unfolding branch
branch_bytes children f zero es h = tt
branch_bytes children f (suc n) [] h = tt
branch_bytes children f (suc n) (e ∷ es) h =
    let b = first_byte e.key in (
      bytes_cons (first_small e.key h.0) bytes_nil,
      (
        f (cut 1 (starting_with b (e ∷ es))) (keys_cut 1 (starting_with b (e ∷ es)) (keys_starting Bytes b (e ∷ es) h)),
        branch_bytes children f n (not_starting_with b (e ∷ es)) (keys_others Bytes b (e ∷ es) h),
      ),
    )

pub children_bytes : (most : ℕ) (es : List Entry) → Keys Bytes es → LabelBytes (children_of most es)
unfolding children_of
children_bytes zero es h = tt
children_bytes (suc most) es h = go (leb 2 (length (prefix_of (longer es)))) (children_bytes most)
  where
    go : (t : Bool) → ((fs : List Entry) → Keys Bytes fs → LabelBytes (children_of most fs))
        → LabelBytes (elim t [ true ↦ child (children_of most) (prefix_of (longer es)) (longer es) nil | false ↦ branch (children_of most) (length es) (longer es) ])
    go true f =
        let p = prefix_of (longer es) in
        let l = keys_longer Bytes es h in
        (prefix_bytes (longer es) l, (f (cut (length p) (longer es)) (keys_cut (length p) (longer es) l), tt))
    go false f = branch_bytes (children_of most) f (length es) (longer es) (keys_longer Bytes es h)

-- the fields that have a byte a place or more
pub record ByteFields (x : Nodes) : Type 0 where
  pub len : Bytes x.len
  pub key : Bytes x.key
  pub label : Bytes x.label

flag_small : (v : Option ℕ) → flag_of v < 256
flag_small None = omega arith
flag_small (Some v) = omega arith

pub laid_bytes : (s : Shape) (n : ℕ) (x : Nodes) → Labels s → LabelBytes s → ByteFields x → ByteFields (laid s n x)
unfolding laid nodes
laid_bytes nil n x l b f = f
laid_bytes (node label v below later) n x l b f =
    let m = n + nodes later in
    let p = m + nodes below in
    let g = laid_bytes below m (laid later n x) l.1.0 b.1.0 (laid_bytes later n x l.1.1 b.1.1 f) in
    record {
      len = bytes_set p g.len (omega (arith, l.0));
      key = bytes_set p g.key (flag_small v);
      label = bytes_put (16 * p) g.label b.0;
    }

pub blank_bytes : ByteFields blank
unfolding blank
blank_bytes = record { len = bytes_zeros 256; key = bytes_zeros 256; label = bytes_zeros 4096 }
