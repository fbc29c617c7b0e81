-- The entries of a tree gathered, one node at a time. Assumes nothing.
use mathlib.Core.Bool.{true, false}
use mathlib.Core.Path.{◌≡◌, ap, ◌∙◌}
use mathlib.Core.List.{List, [], ◌∷◌, ◌++◌}
use Rattle.std.proofs.Common.{Option, Some, None}
use Prim.Native.Nat.{ℕ, ◌+◌, ◌*◌, ◌-◌, ◌≤◌, ◌<◌}
use native.Mathlib.Omega.{arith}
use borrow.Author.Tests.{le-leb, lt-leb}
use lib.ListN.{length, get_or}
use Rattle.octets.specs.Place.{area}
use Rattle.octets.proofs.Laws.{length_area}
use Rattle.keys.specs.Entries.{Entry, entry, length_of}
use Rattle.radix.specs.Shape.{node}
use Rattle.radix.specs.Record.{Nodes, leads_on, label_of, value_of, tree_at}
use Rattle.radix.specs.Gathering.{with_own, gathered}
use Rattle.radix.proofs.Turns.{leads_to, tree_not, tree_node}
use mathlib.Core.Bool.{true, false}
use mathlib.Core.Path.{◌≡◌, ap, ◌∙◌}
use mathlib.Core.List.{List, ◌∷◌, ◌++◌}
use Prim.Native.Nat.{ℕ, ◌+◌, ◌*◌, ◌-◌, ◌≤◌, ◌<◌, ◌^◌}
use native.Mathlib.Omega.{arith}
use borrow.Author.Tests.{ne_eqb, lt-ltb, le-ltb}
use lib.Dec.{eqb}
use lib.ListN.{length, get_or}
use Rattle.octets.specs.Pick.{pick}

module _ (x : Nodes) (left link : ℕ) (before : List ℕ) (es : List Entry) where
  pub gather_nil : leads_on left link ≡ false → Some es ≡ gathered before (tree_at left x link) es
  unfolding gathered
  gather_nil e = rw (tree_not x left link e)

  module _ (on : leads_on left link ≡ true) (d n : ℕ) (b : length before ≡ d) (size : length x.label ≡ 4096) (e : n ≡ length_of x.len (link - 1)) where
    at_node : tree_at left x link
        ≡ node (label_of x (link - 1)) (value_of x (link - 1)) (tree_at (left - 1) x (get_or x.child (link - 1) 0)) (tree_at (left - 1) x (get_or x.next (link - 1) 0))
    at_node = let h = leads_to left link on in tree_node x left link h.0 h.1 h.2

    long : length (label_of x (link - 1)) ≡ n
    long = let h = leads_to left link on in rw (← e) (length_area (16 * (link - 1)) n x.label (omega arith))

    pub gather_deep : 16 < d + n → None ≡ gathered before (tree_at left x link) es
    unfolding gathered
    gather_deep h = rw (at_node, b, long, lt-leb (d + n) 16 h)

    module _ (fit : d + n ≤ 16) (here : List ℕ) (h : here ≡ before ++ area (16 * (link - 1)) n x.label) (o : Option (List Entry)) (w : o ≡ with_own here (value_of x (link - 1)) es) where
      whole : here ≡ before ++ label_of x (link - 1)
      whole = h ∙ ap (λ (m : ℕ). before ++ area (16 * (link - 1)) m x.label) e

      pub gather_full : o ≡ None → None ≡ gathered before (tree_at left x link) es
      unfolding gathered
      gather_full z = rw (at_node, b, long, le-leb (d + n) 16 fit, ← whole, ← w, z)

      module _ (fs : List Entry) (p : o ≡ Some fs) (c : ℕ) (g : c ≡ get_or x.child (link - 1) 0) (q : Option (List Entry)) (r : q ≡ gathered here (tree_at (left - 1) x c) fs) where
        pub gather_below : q ≡ None → None ≡ gathered before (tree_at left x link) es
        unfolding gathered
        gather_below z = rw (at_node, b, long, le-leb (d + n) 16 fit, ← whole, ← w, p, ← g, ← r, z)

        pub gather_later : (gs : List Entry) → q ≡ Some gs → (l : ℕ) → l ≡ get_or x.next (link - 1) 0
            → gathered before (tree_at (left - 1) x l) gs ≡ gathered before (tree_at left x link) es
        unfolding gathered
        gather_later gs z l k = rw (at_node, b, long, le-leb (d + n) 16 fit, ← whole, ← w, p, ← g, ← r, z, ← k)

-- a key node's own row
module _ (k : List ℕ) (f v : ℕ) (es : List Entry) (n : ℕ) (l : length es ≡ n) where
  pub own_none : f ≡ 0 → Some es ≡ with_own k (pick (eqb f 0) None (Some v)) es
  own_none z = rw z

  pub own_full : (f ≡ 0 → ⊥) → 64 ≤ n → None ≡ with_own k (pick (eqb f 0) None (Some v)) es
  own_full z h = rw (ne_eqb f 0 z, l, le-ltb n 64 h)

  pub own_added : (f ≡ 0 → ⊥) → n < 64 → v < 2 ^ 32 → (fs : List Entry) → fs ≡ es ++ (entry k v ∷ []) → Some fs ≡ with_own k (pick (eqb f 0) None (Some v)) es
  own_added z h w fs e = rw (ne_eqb f 0 z, l, lt-ltb n 64 h, lt-ltb v (2 ^ 32) w, e)
