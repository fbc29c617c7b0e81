-- The rules of a shape at the node that a link of a record leads to. Assumes nothing.
use mathlib.Core.Bool.{Bool, true, false, not}
use mathlib.Core.Path.{◌≡◌, refl, sym, ap, ◌∙◌}
use Prim.Native.Nat.{ℕ, ◌*◌, ◌-◌, ◌≤◌, ◌<◌}
use native.Mathlib.Omega.{arith}
use borrow.Author.Tests.{ne_eqb, le-leb, lt-leb}
use lib.ListN.{length, get_or}
use Rattle.octets.proofs.Laws.{length_area}
use Rattle.radix.specs.Shape.{first_byte}
use Rattle.radix.specs.Canon.{is_nil, are_several, is_only, is_one_of}
use Rattle.radix.specs.Record.{Nodes, leads_on, label_of, value_of, tree_at}
use Rattle.keys.specs.Entries.{length_of}
use Rattle.radix.proofs.Turns.{leads_to, nil_leads, tree_not, tree_node}

not_not : (t : Bool) → not (not t) ≡ t
not_not true = refl
not_not false = refl

pub not_several : (x : Nodes) (most link : ℕ) → leads_on most link ≡ false → are_several (tree_at most x link) ≡ false
not_several x most link e = ap are_several (tree_not x most link e)

pub by_next : (x : Nodes) (most link later : ℕ) (t : Bool) → leads_on most link ≡ true → later ≡ get_or x.next (link - 1) 0 → t ≡ leads_on (most - 1) later
    → are_several (tree_at most x link) ≡ t
by_next x most link later t e g r =
    let h = leads_to most link e in
    ap are_several (tree_node x most link h.0 h.1 h.2)
    ∙ ap not (nil_leads x (most - 1) (get_or x.next (link - 1) 0) t (ap (leads_on (most - 1)) (sym g) ∙ sym r))
    ∙ not_not t

by_leads : (x : Nodes) (most link : ℕ) → not (is_nil (tree_at most x link)) ≡ leads_on most link
by_leads x most link = ap not (nil_leads x most link (leads_on most link) refl) ∙ not_not (leads_on most link)

-- the tests at the node of place p, in their order: n is the length of its label, k its key flag
module _ (x : Nodes) (p n left : ℕ) (size : length x.label ≡ 4096) (h : p < 256) (e : n ≡ length_of x.len p) where
  label_long : length (label_of x p) ≡ n
  label_long = rw (← e) (length_area (16 * p) n x.label (omega arith))

  pub only_empty : n ≡ 0 → false ≡ is_only (label_of x p) (value_of x p) (tree_at left x (get_or x.child p 0))
  only_empty z = rw (label_long, z)

  module _ (k : ℕ) (z : n ≡ 0 → ⊥) (f : k ≡ get_or x.key p 0) where
    pub only_key : (k ≡ 0 → ⊥) → true ≡ is_only (label_of x p) (value_of x p) (tree_at left x (get_or x.child p 0))
    only_key y = let m : 1 ≤ n = omega arith in rw (label_long, le-leb 1 n m, ← f, ne_eqb k 0 y)

    pub only_parted : k ≡ 0 → (c : ℕ) (t : Bool) → c ≡ get_or x.child p 0 → are_several (tree_at left x c) ≡ t
        → t ≡ is_only (label_of x p) (value_of x p) (tree_at left x (get_or x.child p 0))
    only_parted y c t g r = let m : 1 ≤ n = omega arith in rw (label_long, le-leb 1 n m, ← f, y, ← g) (sym r)

  module _ (least : ℕ) where
    pub one_long : (n ≡ 1 → ⊥) → false ≡ is_one_of least (label_of x p) (value_of x p) (tree_at left x (get_or x.child p 0))
    one_long z = rw (label_long, ne_eqb n 1 z)

    module _ (b : ℕ) (z : n ≡ 1) (f : b ≡ first_byte (label_of x p)) where
      pub one_low : b < least → false ≡ is_one_of least (label_of x p) (value_of x p) (tree_at left x (get_or x.child p 0))
      one_low l = rw (label_long, z, ← f, lt-leb least b l)

      module _ (l : least ≤ b) (k : ℕ) (q : k ≡ get_or x.key p 0) where
        pub one_key : (k ≡ 0 → ⊥) → true ≡ is_one_of least (label_of x p) (value_of x p) (tree_at left x (get_or x.child p 0))
        one_key y = rw (label_long, z, ← f, le-leb least b l, ← q, ne_eqb k 0 y)

        pub one_below : k ≡ 0 → (c : ℕ) (t : Bool) → c ≡ get_or x.child p 0 → t ≡ leads_on left c
            → t ≡ is_one_of least (label_of x p) (value_of x p) (tree_at left x (get_or x.child p 0))
        one_below y c t g r = rw (label_long, z, ← f, le-leb least b l, ← q, y, ← g) (r ∙ sym (by_leads x left c))
