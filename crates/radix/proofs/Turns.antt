-- One turn of each loop: what is left answers what the whole answers. Assumes nothing.
use mathlib.Core.Bool.{Bool, true, false, not, false≢true}
use mathlib.Core.Path.{◌≡◌, refl, sym, ap, ap₂, ◌∙◌}
use mathlib.Core.List.{List, [], ◌∷◌, ◌++◌}
use Rattle.std.proofs.Common.{Option, None}
use Prim.Native.Nat.{ℕ, zero, suc, ◌+◌, ◌*◌, ◌-◌, ◌≤◌, ◌<◌}
use native.Mathlib.Omega.{arith}
use borrow.Author.Tests.{eq-eqb, ne_eqb, lt-ltb, le-ltb, le-leb, ltb-true, leb-true, leb-false}
use lib.Dec.{eqb, ltb}
use lib.ListN.{length, take, drop, get_or, drop_of_length-le, length-drop}
use lib.Seq.{drop-cons, drop-drop}
use Rattle.octets.specs.Pick.{pick}
use Rattle.octets.specs.Place.{area, put}
use Rattle.octets.proofs.Laws.{length_area, both_true, take_put_end}
use Rattle.radix.specs.Shape.{Shape, nil, node, first_byte, starts_with}
use Rattle.radix.specs.Canon.{is_nil}
use Rattle.radix.specs.Record.{Nodes, leads_on, label_of, value_of, tree_at}
use Rattle.keys.specs.Entries.{length_of}
use Rattle.radix.specs.Walk.{reached, find_in}

-- a label beside what is left of a key
module _ (a k : List ℕ) (at i n j : ℕ) (h : at + n ≤ length a) (more : j < n) where
  left : n - j ≡ suc (n - (j + 1))
  left = omega arith

  label_left : area (at + j) (n - j) a ≡ get_or a (at + j) 0 ∷ area (at + (j + 1)) (n - (j + 1)) a
  unfolding area
  label_left =
      let e : at + (j + 1) ≡ suc (at + j) = omega arith in
      let l : at + j < length a = omega arith in
      rw (left, e, drop-cons a (at + j) 0 l)

  key_left : i + j < length k → drop (i + j) k ≡ get_or k (i + j) 0 ∷ drop (i + (j + 1)) k
  key_left g =
      let e : i + (j + 1) ≡ suc (i + j) = omega arith in
      rw (e, drop-cons k (i + j) 0 g)

  pub starts_next : i + j < length k → get_or a (at + j) 0 ≡ get_or k (i + j) 0
      → starts_with (area (at + j) (n - j) a) (drop (i + j) k) ≡ starts_with (area (at + (j + 1)) (n - (j + 1)) a) (drop (i + (j + 1)) k)
  unfolding starts_with
  starts_next g e = rw (label_left, key_left g, eq-eqb _ _ e)

  pub starts_stop : i + j < length k → (get_or a (at + j) 0 ≡ get_or k (i + j) 0 → ⊥) → starts_with (area (at + j) (n - j) a) (drop (i + j) k) ≡ false
  unfolding starts_with
  starts_stop g e = rw (label_left, key_left g, ne_eqb _ _ e)

  pub starts_short : length k ≤ i + j → starts_with (area (at + j) (n - j) a) (drop (i + j) k) ≡ false
  unfolding starts_with
  starts_short g = rw (label_left, drop_of_length-le k g)

pub starts_all : (a k : List ℕ) (at n : ℕ) → n ≡ 0 → starts_with (area at n a) k ≡ true
unfolding area starts_with
starts_all a k at n e = rw e

pub starts_fits : (l k : List ℕ) → starts_with l k ≡ true → length l ≤ length k
unfolding starts_with
starts_fits [] k e = omega arith
starts_fits (x ∷ l) [] e = absurd (false≢true e)
starts_fits (x ∷ l) (y ∷ k) e = go (eqb x y) (starts_fits l k) e
  where
    go : (t : Bool) → (starts_with l k ≡ true → length l ≤ length k) → pick t (starts_with l k) false ≡ true → suc (length l) ≤ suc (length k)
    go true ih e = let h = ih e in omega arith
    go false ih e = absurd (false≢true e)

-- the first byte of a label
pub first_none : (a : List ℕ) (at n : ℕ) → n ≡ 0 → 0 ≡ first_byte (area at n a)
unfolding area
first_none a at n e = rw e

pub first_some : (a : List ℕ) (at n : ℕ) → at < length a → 0 < n → get_or a at 0 ≡ first_byte (area at n a)
unfolding area
first_some a at n h m = let e : n ≡ suc (n - 1) = omega arith in rw (e, drop-cons a at 0 h)

-- what a link leads to
pub tree_end : (x : Nodes) (most link : ℕ) → most ≡ 0 → tree_at most x link ≡ nil
unfolding tree_at
tree_end x most link e = rw e

pub tree_nil : (x : Nodes) (most : ℕ) → tree_at most x 0 ≡ nil
unfolding tree_at
tree_nil x zero = refl
tree_nil x (suc most) = refl

pub step : (x : Nodes) (most p : ℕ) → p < 256
    → tree_at (suc most) x (suc p) ≡ node (label_of x p) (value_of x p) (tree_at most x (get_or x.child p 0)) (tree_at most x (get_or x.next p 0))
unfolding tree_at
step x most p h = rw (lt-ltb p 256 h)

out : (x : Nodes) (most p : ℕ) → 256 ≤ p → tree_at most x (suc p) ≡ nil
unfolding tree_at
out x zero p h = refl
out x (suc most) p h = rw (le-ltb p 256 h)

pub tree_out : (x : Nodes) (most link : ℕ) → 256 < link → tree_at most x link ≡ nil
tree_out x most link h =
    let e : link ≡ suc (link - 1) = omega arith in
    ap (tree_at most x) e ∙ out x most (link - 1) (omega arith)

pub tree_not : (x : Nodes) (most link : ℕ) → leads_on most link ≡ false → tree_at most x link ≡ nil
unfolding tree_at
tree_not x zero link e = refl
tree_not x (suc most) zero e = refl
tree_not x (suc most) (suc p) e =
    let a : 0 < suc most = omega arith in
    let b : 0 < suc p = omega arith in
    let h : 256 < suc p = leb-false (suc p) 256 (rw (lt-ltb 0 (suc most) a, lt-ltb 0 (suc p) b) at e) in
    rw (le-ltb p 256 (omega arith))

pub tree_node : (x : Nodes) (most link : ℕ) → 0 < most → 0 < link → link ≤ 256
    → tree_at most x link
    ≡ node (label_of x (link - 1)) (value_of x (link - 1)) (tree_at (most - 1) x (get_or x.child (link - 1) 0)) (tree_at (most - 1) x (get_or x.next (link - 1) 0))
tree_node x most link m l h =
    let e : link ≡ suc (link - 1) = omega arith in
    let f : most ≡ suc (most - 1) = omega arith in
    ap₂ (λ (n : ℕ) (i : ℕ). tree_at n x i) f e ∙ step x (most - 1) (link - 1) (omega arith)

pub leads_on_lem : (most link : ℕ) → 0 < most → 0 < link → link ≤ 256 → leads_on most link ≡ true
leads_on_lem most link m l h = rw (lt-ltb 0 most m, lt-ltb 0 link l, le-leb link 256 h)

pub leads_to : (most link : ℕ) → leads_on most link ≡ true → (0 < most) × (0 < link) × (link ≤ 256)
leads_to most link e =
    let a = both_true (ltb 0 most) _ e in
    let b = both_true (ltb 0 link) _ a.1 in
    (ltb-true 0 most a.0, ltb-true 0 link b.0, leb-true link 256 b.1)

-- a link leads to a node exactly if this says so
pub nil_leads : (x : Nodes) (most link : ℕ) (t : Bool) → leads_on most link ≡ t → is_nil (tree_at most x link) ≡ not t
nil_leads x most link true e = let h = leads_to most link e in ap is_nil (tree_node x most link h.0 h.1 h.2)
nil_leads x most link false e = ap is_nil (tree_not x most link e)

-- a key at the node that a link leads to
pub find_none : {s : Shape} (k : List ℕ) → s ≡ nil → find_in s k ≡ None
unfolding find_in
find_none k e = rw e

goes_below : (v o : Option ℕ) (r : List ℕ) → 0 < length r → reached r v o ≡ o
goes_below v o [] d = absurd (omega arith)
goes_below v o (b ∷ r) d = refl

-- what a turn has learnt: the link leads to a node, and t says whether its label, of n bytes, starts the key from i on
pub record Turn (x : Nodes) (k : List ℕ) (left link i n : ℕ) (t : Bool) : Type 0 where
  pub size : length x.label ≡ 4096
  pub more : 0 < left
  pub some : 0 < link
  pub pool : link ≤ 256
  pub bytes : n ≡ length_of x.len (link - 1)
  pub test : t ≡ starts_with (area (16 * (link - 1)) n x.label) (drop i k)

module _ {x : Nodes} {k : List ℕ} {left link i n : ℕ} {t : Bool} (r : Turn x k left link i n t) where
  at_node : tree_at left x link ≡ node (label_of x (link - 1)) (value_of x (link - 1)) (tree_at (left - 1) x (get_or x.child (link - 1) 0)) (tree_at (left - 1) x (get_or x.next (link - 1) 0))
  at_node = tree_node x left link r.more r.some r.pool

  tested : starts_with (label_of x (link - 1)) (drop i k) ≡ t
  tested = rw (← r.bytes) (sym r.test)

  wide : length (label_of x (link - 1)) ≡ n
  wide = rw (← r.bytes) (length_area (16 * (link - 1)) n x.label (omega arith))

  pub find_next : (q : ℕ) → t ≡ false → q ≡ get_or x.next (link - 1) 0 → find_in (tree_at (left - 1) x q) (drop i k) ≡ find_in (tree_at left x link) (drop i k)
  unfolding find_in
  find_next q f g = rw (at_node, tested, f, g)

  pub find_own : t ≡ true → length k ≤ i + n → value_of x (link - 1) ≡ find_in (tree_at left x link) (drop i k)
  unfolding find_in
  find_own f d = rw (at_node, tested, f, wide, drop-drop n i k, drop_of_length-le k d)

  pub find_below : (q : ℕ) → t ≡ true → i + n < length k → q ≡ get_or x.child (link - 1) 0
      → find_in (tree_at (left - 1) x q) (drop (i + n) k) ≡ find_in (tree_at left x link) (drop i k)
  unfolding find_in
  find_below q f d g =
      rw (at_node, tested, f, wide, drop-drop n i k, g)
      (sym (goes_below (value_of x (link - 1)) _ (drop (i + n) k) (omega (arith, length-drop (i + n) k))))

  pub find_fits : t ≡ true → i ≤ length k → i + n ≤ length k
  find_fits f h = omega (arith, starts_fits (label_of x (link - 1)) (drop i k) (tested ∙ f), wide, length-drop i k)

-- a path with a label put at its end
pub laid_on : (path : List ℕ) (d n : ℕ) (r bs : List ℕ) → d ≤ length path → length bs ≡ n → r ≡ put path d bs → take (d + n) r ≡ take d path ++ bs
laid_on path d n r bs h l e = rw (e, ← l) (take_put_end path d bs h)
