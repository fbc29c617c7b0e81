-- The bytes that lead down to a first or last key, kept for 16. Assumes nothing.
use mathlib.Core.Bool.{true, false}
use mathlib.Core.Path.{◌≡◌, refl, sym, ap, ap₂, ◌∙◌}
use mathlib.Core.List.{List, [], ◌∷◌, ◌++◌}
use Rattle.std.proofs.Common.{Option, Some, None}
use Prim.Native.Nat.{ℕ, zero, suc, ◌+◌, ◌*◌, ◌-◌, ◌≤◌, min}
use native.Mathlib.Nat.{zero-add}
use native.Mathlib.Omega.{arith}
use borrow.Author.Tests.{ne_eqb}
use lib.ListN.{length, take, drop, get_or, length-take, length-drop, length-replicate, replicate-append-replicate}
use lib.Seq.{take-take, take_all, take-append-add, drop_at, length-take-le}
use Rattle.octets.specs.Bytes.{zeros}
use Rattle.octets.specs.Place.{area, put}
use Rattle.octets.proofs.Laws.{by_order, area_front}
use Rattle.keys.specs.Entries.{entry, length_of}
use Rattle.radix.specs.Shape.{Shape, nil, node}
use Rattle.radix.specs.Record.{Nodes, leads_on, label_of, value_of, tree_at}
use Rattle.radix.specs.Walk.{own_of, least_in, greatest_in}
use Rattle.keys.specs.Answer.{padded}
use Rattle.keys.specs.Answer.{neighbour_as, near_of}
use Rattle.radix_walk.specs.Neighbours.{cut_key, alone, least_from, greatest_from}
use Rattle.radix_walk.specs.declared.near.Stop.{Stop}
use Rattle.radix.proofs.Laws.{leads_to, tree_node, tree_not, nil_leads}

-- the node that a link leads to
pub node_on : (x : Nodes) (left link : ℕ) → leads_on left link ≡ true → tree_at left x link ≡ node (label_of x (link - 1)) (value_of x (link - 1)) (tree_at (left - 1) x (get_or x.child (link - 1) 0)) (tree_at (left - 1) x (get_or x.next (link - 1) 0))
node_on x left link e = let h = leads_to left link e in tree_node x left link h.0 h.1 h.2

-- what a part that was lent, cut where there is room, reads
take_min : (a b : ℕ) (l : List ℕ) → take a (take b l) ≡ take (min b a) l
take_min a b l =
    let p : b ≤ a → min b a ≡ b = λ h. omega arith in
    let q : a ≤ b → min b a ≡ a = λ h. omega arith in
    by_order a b
    (λ h. take-take a b l (omega arith) ∙ ap (λ (n : ℕ). take n l) (sym (q (omega arith))))
    (λ h. take_all a (take b l) (omega (arith, length-take b l)) ∙ ap (λ (n : ℕ). take n l) (sym (p (omega arith))))
    (λ h. take-take a b l (omega arith) ∙ ap (λ (n : ℕ). take n l) (sym (q (omega arith))))

pub part_short : (i n : ℕ) (k : List ℕ) → take (min n (length k - i)) (drop i k) ≡ area i n k
unfolding area
part_short i n k = sym (take_min (length k - i) n (drop i k)) ∙ take_all (length k - i) (take n (drop i k)) (omega (arith, length-take n (drop i k), length-drop i k))

-- a path of n bytes, and after it m bytes of s from at on
pub laid_cut : (path s : List ℕ) (n at m : ℕ) → n ≤ 16 → 16 ≤ length path → take n path ++ area at (min m (16 - n)) s ≡ take 16 (take n path ++ area at m s)
unfolding area
laid_cut path s n at m h g =
    let e : 16 ≡ length (take n path) + (16 - n) = omega (arith, length-take-le n path (omega arith)) in
    ap (λ (l : List ℕ). take n path ++ l) (sym (take_min (16 - n) m (drop at s)))
    ∙ sym (take-append-add (take n path) (take m (drop at s)) (16 - n))
    ∙ ap (λ (j : ℕ). take j (take n path ++ take m (drop at s))) (sym e)

-- what follows a path of which 16 bytes are kept
take_append : (n : ℕ) (a l : List ℕ) → take n (take n a ++ l) ≡ take n (a ++ l)
take_append zero a l = refl
take_append (suc n) [] l = refl
take_append (suc n) (x ∷ a) l = ap (λ (z : List ℕ). x ∷ z) (take_append n a l)

module _ (a b : List ℕ) (e : take 16 a ≡ take 16 b) where
  cut_same : (l : List ℕ) → take 16 (a ++ l) ≡ take 16 (b ++ l)
  cut_same l = sym (take_append 16 a l) ∙ ap (λ (z : List ℕ). take 16 (z ++ l)) e ∙ take_append 16 b l

  cut_own : (l : List ℕ) (v : Option ℕ) → cut_key (own_of (a ++ l) v) ≡ cut_key (own_of (b ++ l) v)
  cut_own l None = refl
  cut_own l (Some v) = ap (λ (k : List ℕ). Some (entry k v)) (cut_same l)

pub cut_least : (a b : List ℕ) (s : Shape) → take 16 a ≡ take 16 b → cut_key (least_in a s) ≡ cut_key (least_in b s)
unfolding least_in
cut_least a b nil e = refl
cut_least a b (node label None below later) e = cut_least (a ++ label) (b ++ label) below (cut_same a b e label)
cut_least a b (node label (Some v) below later) e = cut_own a b e label (Some v)

pub cut_greatest : (a b : List ℕ) (s : Shape) → take 16 a ≡ take 16 b → cut_key (greatest_in a s) ≡ cut_key (greatest_in b s)
unfolding greatest_in
cut_greatest a b nil e = refl
cut_greatest a b (node label v below (node m w deeper later)) e = cut_greatest a b (node m w deeper later) e
cut_greatest a b (node label v nil nil) e = cut_own a b e label v
cut_greatest a b (node label v (node m w deeper later) nil) e = cut_greatest (a ++ label) (b ++ label) (node m w deeper later) (cut_same a b e label)

-- what a turn down has learnt: the link leads to a node, and the path a is followed by its label, of n bytes, which makes b
pub record Down (x : Nodes) (left link n : ℕ) (a b : List ℕ) : Type 0 where
  pub on : leads_on left link ≡ true
  pub bytes : n ≡ length_of x.len (link - 1)
  pub laid : b ≡ take 16 (a ++ area (16 * (link - 1)) n x.label)

module _ {x : Nodes} {left link n : ℕ} {a b : List ℕ} (r : Down x left link n a b) where
  kept : b ≡ take 16 (a ++ label_of x (link - 1))
  kept = r.laid ∙ ap (λ (m : ℕ). take 16 (a ++ area (16 * (link - 1)) m x.label)) r.bytes

  again : take 16 b ≡ take 16 (a ++ label_of x (link - 1))
  again = ap (take 16) kept ∙ take-take 16 16 (a ++ label_of x (link - 1)) (omega arith)

  own_kept : (v : Option ℕ) → own_of b v ≡ cut_key (own_of (a ++ label_of x (link - 1)) v)
  own_kept None = refl
  own_kept (Some v) = ap (λ (k : List ℕ). Some (entry k v)) kept

  pub least_own : (v : ℕ) → (get_or x.key (link - 1) 0 ≡ 0 → ⊥) → v ≡ get_or x.val (link - 1) 0
      → Some (entry b v) ≡ cut_key (least_in a (tree_at left x link))
  unfolding least_in
  least_own v z e = rw (node_on x left link r.on, ne_eqb (get_or x.key (link - 1) 0) 0 z, e) (own_kept (Some (get_or x.val (link - 1) 0)))

  pub least_below : (q : ℕ) → get_or x.key (link - 1) 0 ≡ 0 → q ≡ get_or x.child (link - 1) 0
      → cut_key (least_in b (tree_at (left - 1) x q)) ≡ cut_key (least_in a (tree_at left x link))
  unfolding least_in
  least_below q z e = rw (node_on x left link r.on, z, e) (cut_least b (a ++ label_of x (link - 1)) (tree_at (left - 1) x (get_or x.child (link - 1) 0)) again)

  pub greatest_own : (q : ℕ) → q ≡ get_or x.child (link - 1) 0 → leads_on (left - 1) q ≡ false
      → own_of b (value_of x (link - 1)) ≡ cut_key (greatest_in a (alone (tree_at left x link)))
  unfolding greatest_in
  greatest_own q e z = rw (node_on x left link r.on, ← e, nil_leads x (left - 1) q false z) (own_kept (value_of x (link - 1)))

  pub greatest_below : (q : ℕ) → q ≡ get_or x.child (link - 1) 0 → leads_on (left - 1) q ≡ true
      → cut_key (greatest_in b (tree_at (left - 1) x q)) ≡ cut_key (greatest_in a (alone (tree_at left x link)))
  unfolding greatest_in
  greatest_below q e z = rw (node_on x left link r.on, ← e, nil_leads x (left - 1) q true z) (cut_greatest b (a ++ label_of x (link - 1)) (tree_at (left - 1) x q) again)

-- the last of siblings
module _ (x : Nodes) (before : List ℕ) (left link : ℕ) where
  pub last_none : leads_on left link ≡ false → greatest_in before (tree_at left x link) ≡ greatest_in before (alone (tree_at left x link))
  last_none e = rw (tree_not x left link e)

  module _ (on : leads_on left link ≡ true) (q : ℕ) (e : q ≡ get_or x.next (link - 1) 0) where
    node_there : tree_at left x link ≡ node (label_of x (link - 1)) (value_of x (link - 1)) (tree_at (left - 1) x (get_or x.child (link - 1) 0)) (tree_at (left - 1) x q)
    node_there = rw e (node_on x left link on)

    pub last_here : leads_on (left - 1) q ≡ false → greatest_in before (tree_at left x link) ≡ greatest_in before (alone (tree_at left x link))
    unfolding greatest_in
    last_here z = rw (node_there, nil_leads x (left - 1) q false z)

    pub last_later : leads_on (left - 1) q ≡ true → greatest_in before (tree_at left x link) ≡ greatest_in before (tree_at (left - 1) x q)
    unfolding greatest_in
    last_later z = rw (node_there, nil_leads x (left - 1) q true z)

-- where a walk down starts: the bytes of the key that lead there are laid
module _ (x : Nodes) (k : List ℕ) (s : Stop) (b : List ℕ) (e : b ≡ take 16 (area 0 s.lead k)) where
  began : take 16 b ≡ take 16 (take s.lead k)
  began = ap (take 16) e ∙ take-take 16 16 (area 0 s.lead k) (omega arith) ∙ ap (take 16) (area_front s.lead k)

  pub least_start : cut_key (least_in b (tree_at s.left x s.at)) ≡ cut_key (least_from x k s)
  unfolding least_from
  least_start = cut_least b (take s.lead k) (tree_at s.left x s.at) began

  pub greatest_start : cut_key (greatest_in b (alone (tree_at s.left x s.at))) ≡ cut_key (greatest_from x k s)
  unfolding greatest_from
  greatest_start = cut_greatest b (take s.lead k) (alone (tree_at s.left x s.at)) began

-- and where it ends with nothing
module _ (x : Nodes) (before : List ℕ) (left link : ℕ) (e : leads_on left link ≡ false) where
  pub least_end : None ≡ cut_key (least_in before (tree_at left x link))
  unfolding least_in
  least_end = rw (tree_not x left link e)

  pub greatest_end : None ≡ cut_key (greatest_in before (alone (tree_at left x link)))
  unfolding greatest_in
  greatest_end = rw (tree_not x left link e)

-- the answer that stands for an entry
padded_put : (bs : List ℕ) → length bs ≤ 16 → put (zeros 16) 0 bs ≡ padded bs
unfolding put
padded_put bs h =
    let m : ℕ = length bs in
    let e : 16 ≡ m + (16 - m) = omega arith in
    ap (λ (z : List ℕ). bs ++ z)
    (ap (λ (j : ℕ). drop j (zeros 16)) (zero-add m)
    ∙ ap (λ (j : ℕ). drop m (zeros j)) e
    ∙ ap (drop m) (sym (replicate-append-replicate m (16 - m) 0))
    ∙ drop_at (zeros m) (zeros (16 - m)) m (length-replicate {A = ℕ} m 0))

pub near_entry : (path : List ℕ) (n v : ℕ) (key : List ℕ) → n ≤ length path → n ≤ 16 → key ≡ put (zeros 16) 0 (take n path) → neighbour_as n v key ≡ near_of (entry (take n path) v)
near_entry path n v key h g e =
    let l = length-take-le n path h in
    ap₂ (λ (m : ℕ) (k : List ℕ). neighbour_as m v k) (sym l) (e ∙ padded_put (take n path) (omega arith))
