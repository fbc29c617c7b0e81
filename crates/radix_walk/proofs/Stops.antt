-- One turn of the walks along a key's path, and where they stop. Assumes nothing.
use mathlib.Core.Bool.{Bool, true, false}
use mathlib.Core.Path.{◌≡◌, refl, sym, ap, ◌∙◌}
use mathlib.Core.List.{List, [], ◌++◌}
use Rattle.std.proofs.Common.{Option, Some, None}
use Prim.Native.Nat.{ℕ, ◌+◌, ◌*◌, ◌-◌, ◌≤◌, ◌<◌}
use native.Mathlib.Omega.{arith}
use lib.Dec.{eqb}
use lib.ListN.{length, take, drop, get_or, length-take, length-drop}
use lib.Seq.{take-add, drop-drop}
use Rattle.octets.specs.Pick.{pick}
use Rattle.std.specs.Option.{option_or}
use Rattle.octets.specs.Place.{area}
use Rattle.octets.specs.Compare.{order_of}
use Rattle.std.specs.declared.cmp.Ordering.{Ordering}
use Rattle.std.specs.declared.cmp.Ordering.TheVariants.{Less, Equal, Greater}
use Rattle.octets.proofs.Laws.{length_area, part_area}
use Rattle.keys.specs.Entries.{Entry, length_of}
use Rattle.radix.specs.Record.{Nodes, leads_on, label_of, value_of, tree_at}
use Rattle.radix.specs.Walk.{own_of, least_in, least_or, seek_first, first_in, greatest_in, seek_last, last_in}
use Rattle.radix_walk.specs.Neighbours.{stop_at, least_from, greatest_from}
use Rattle.radix_walk.specs.declared.near.Stop.{Stop}
use Rattle.radix.proofs.Laws.{leads_on_lem, leads_to, tree_not, tree_end}
use Rattle.radix_walk.proofs.Paths.{node_on}
use Rattle.radix_walk.proofs.Beside.{less_before, less_starts, less_not, greater_before, greater_not, equal_is, equal_starts, equal_not, equal_whole, equal_more}

-- what is kept on the way
pub lead_within : (t : Bool) (s u : Stop) (n : ℕ) {r : Stop} → r ≡ pick t s u → s.lead ≤ n → u.lead ≤ n → r.lead ≤ n
lead_within true s u n e h g = rw (ap (λ (v : Stop). v.lead) e) h
lead_within false s u n e h g = rw (ap (λ (v : Stop). v.lead) e) g

module _ (x : Nodes) (k : List ℕ) where
  nearer_least : (s : Stop) (link i left : ℕ) → least_from x k (pick (leads_on left link) (stop_at link i left) s) ≡ least_or (take i k) (tree_at left x link) (least_from x k s)
  unfolding least_from
  nearer_least s link i left = go (leads_on left link) refl
    where
      go : (t : Bool) → leads_on left link ≡ t → least_from x k (pick t (stop_at link i left) s) ≡ least_or (take i k) (tree_at left x link) (least_from x k s)
      go true e = rw (node_on x left link e)
      go false e = rw (tree_not x left link e)

  own_greatest : (s : Stop) (link i : ℕ) → leads_on 1 link ≡ true
      → greatest_from x k (pick (eqb (get_or x.key (link - 1) 0) 0) s (stop_at link i 1))
      ≡ option_or (own_of (take i k ++ label_of x (link - 1)) (value_of x (link - 1))) (greatest_from x k s)
  unfolding greatest_from greatest_in
  own_greatest s link i e = go (eqb (get_or x.key (link - 1) 0) 0) refl
    where
      go : (t : Bool) → eqb (get_or x.key (link - 1) 0) 0 ≡ t → greatest_from x k (pick t s (stop_at link i 1))
          ≡ option_or (own_of (take i k ++ label_of x (link - 1)) (pick t None (Some (get_or x.val (link - 1) 0)))) (greatest_from x k s)
      go true f = refl
      go false f = rw (node_on x 1 link e, f, tree_end x (1 - 1) (get_or x.child (link - 1) 0) refl)

-- what a turn has learnt: the link leads to a node, and o says how its label, of n bytes, lies beside the key from i on
pub record Met (x : Nodes) (k : List ℕ) (left link i n : ℕ) (o : Ordering) : Type 0 where
  pub size : length x.label ≡ 4096
  pub on : leads_on left link ≡ true
  pub within : i ≤ length k
  pub bytes : n ≡ length_of x.len (link - 1)
  pub test : o ≡ order_of (area (16 * (link - 1)) n x.label) (area i n k)

module _ {x : Nodes} {k : List ℕ} {left link i n : ℕ} {o : Ordering} (r : Met x k left link i n o) where
  wide : length (label_of x (link - 1)) ≡ n
  wide = let h = leads_to left link r.on in rw (← r.bytes) (length_area (16 * (link - 1)) n x.label (omega arith))

  order : order_of (label_of x (link - 1)) (take (length (label_of x (link - 1))) (drop i k)) ≡ o
  order = rw (wide, part_area i n k, ← r.bytes) (sym r.test)

  rest : drop (length (label_of x (link - 1))) (drop i k) ≡ drop (i + n) k
  rest = rw wide (drop-drop n i k)

  path : o ≡ Equal → take i k ++ label_of x (link - 1) ≡ take (i + n) k
  path f = ap (λ (l : List ℕ). take i k ++ l) (sym (equal_is (label_of x (link - 1)) (drop i k) (order ∙ f)) ∙ ap (λ (m : ℕ). take m (drop i k)) wide) ∙ sym (take-add i n k)

  pub into_fits : o ≡ Equal → i + n ≤ length k
  into_fits f =
      omega (arith, wide, ap length (equal_is (label_of x (link - 1)) (drop i k) (order ∙ f)), length-take (length (label_of x (link - 1))) (drop i k), length-drop i k, r.within)

  -- the first at or above: past the label, into its children, and here
  module _ (s : Stop) where
    pub first_next_lem : (q : ℕ) → o ≡ Less → q ≡ get_or x.next (link - 1) 0
        → seek_first (take i k) (tree_at (left - 1) x q) (drop i k) (least_from x k s) ≡ seek_first (take i k) (tree_at left x link) (drop i k) (least_from x k s)
    unfolding seek_first
    first_next_lem q f g = rw (node_on x left link r.on, less_before (label_of x (link - 1)) (drop i k) (order ∙ f), less_starts (label_of x (link - 1)) (drop i k) (order ∙ f), g)

    pub first_into : (q l : ℕ) (u : Stop) → o ≡ Equal → i + n < length k → q ≡ get_or x.child (link - 1) 0 → l ≡ get_or x.next (link - 1) 0
        → u ≡ pick (leads_on (left - 1) l) (stop_at l i (left - 1)) s
        → seek_first (take (i + n) k) (tree_at (left - 1) x q) (drop (i + n) k) (least_from x k u) ≡ seek_first (take i k) (tree_at left x link) (drop i k) (least_from x k s)
    unfolding seek_first
    first_into q l u f d g h e =
        let m : length (label_of x (link - 1)) < length (drop i k) = omega (arith, wide, length-drop i k) in
        rw (e, nearer_least x k s l i (left - 1), node_on x left link r.on, equal_more (label_of x (link - 1)) (drop i k) (order ∙ f) m, equal_starts (label_of x (link - 1)) (drop i k) (order ∙ f), path f, rest, g, h)

    pub first_above_lem : o ≡ Greater → least_from x k (stop_at link i left) ≡ seek_first (take i k) (tree_at left x link) (drop i k) (least_from x k s)
    unfolding seek_first least_from
    first_above_lem f = rw (node_on x left link r.on, greater_not (label_of x (link - 1)) (drop i k) (order ∙ f))

    pub first_whole : o ≡ Equal → length k ≤ i + n → least_from x k (stop_at link i left) ≡ seek_first (take i k) (tree_at left x link) (drop i k) (least_from x k s)
    unfolding seek_first least_from
    first_whole f d =
        let m : length (drop i k) ≤ length (label_of x (link - 1)) = omega (arith, wide, length-drop i k) in
        rw (node_on x left link r.on, equal_whole (label_of x (link - 1)) (drop i k) (order ∙ f) m)

    -- the last at or below: past the label, into its children, and no further
    pub last_next : (q : ℕ) → o ≡ Less → q ≡ get_or x.next (link - 1) 0
        → seek_last (take i k) (tree_at (left - 1) x q) (drop i k) (greatest_from x k (stop_at link i left)) ≡ seek_last (take i k) (tree_at left x link) (drop i k) (greatest_from x k s)
    unfolding seek_last greatest_from
    last_next q f g = rw (node_on x left link r.on, less_not (label_of x (link - 1)) (drop i k) (order ∙ f), less_starts (label_of x (link - 1)) (drop i k) (order ∙ f), g)

    pub last_into : (q : ℕ) (u : Stop) → o ≡ Equal → q ≡ get_or x.child (link - 1) 0 → u ≡ pick (eqb (get_or x.key (link - 1) 0) 0) s (stop_at link i 1)
        → seek_last (take (i + n) k) (tree_at (left - 1) x q) (drop (i + n) k) (greatest_from x k u) ≡ seek_last (take i k) (tree_at left x link) (drop i k) (greatest_from x k s)
    unfolding seek_last
    last_into q u f g e =
        let h = leads_to left link r.on in
        let w = leads_on_lem 1 link (omega arith) h.1 h.2 in
        rw (e, own_greatest x k s link i w, node_on x left link r.on, equal_not (label_of x (link - 1)) (drop i k) (order ∙ f), equal_starts (label_of x (link - 1)) (drop i k) (order ∙ f), path f, rest, g)

    pub last_end : o ≡ Greater → greatest_from x k s ≡ seek_last (take i k) (tree_at left x link) (drop i k) (greatest_from x k s)
    unfolding seek_last
    last_end f = rw (node_on x left link r.on, greater_before (label_of x (link - 1)) (drop i k) (order ∙ f))

-- the walks begin with no stop, and end where a link leads nowhere
module _ (x : Nodes) (k : List ℕ) where
  pub first_start : (first : ℕ) → seek_first [] (tree_at 256 x first) k (least_from x k (stop_at 0 0 0)) ≡ first_in [] (tree_at 256 x first) k
  unfolding first_in least_from least_in
  first_start first = rw (tree_not x 0 0 refl)

  pub last_start : (first : ℕ) → seek_last [] (tree_at 256 x first) k (greatest_from x k (stop_at 0 0 0)) ≡ last_in [] (tree_at 256 x first) k
  unfolding last_in greatest_from greatest_in
  last_start first = rw (tree_not x 0 0 refl)

  module _ (before : List ℕ) (left link : ℕ) (e : leads_on left link ≡ false) (o : Option Entry) where
    pub first_end : o ≡ seek_first before (tree_at left x link) k o
    unfolding seek_first
    first_end = rw (tree_not x left link e)

    pub last_stop : o ≡ seek_last before (tree_at left x link) k o
    unfolding seek_last
    last_stop = rw (tree_not x left link e)
