-- What is laid is read back: the tree, the marks of its places, and that each place is as it has to be. Assumes nothing.
use mathlib.Core.Bool.{true}
use mathlib.Core.Path.{◌≡◌, refl, sym, ap, ap₂, ◌∙◌, subst}
use mathlib.Core.List.{List}
use Rattle.std.proofs.Common.{Option, Some, None}
use Prim.Native.Nat.{ℕ, zero, suc, ◌+◌, ◌*◌, ◌-◌, ◌≤◌, ◌<◌, min}
use native.Mathlib.Nat.{zero-add, suc-add}
use native.Mathlib.Omega.{arith}
use borrow.Author.Tests.{le-leb}
use lib.Dec.{eqb}
use lib.ListN.{length, get_or, set, take, drop, length-set, length-replicate, get_or-replicate, replicate-append-replicate}
use lib.Seq.{take_all, get_or-set_same, get_or-set_other, take-take, take_at, drop_at}
use Rattle.octets.specs.Pick.{pick}
use Rattle.octets.specs.Maybe.{◌>>=◌}
use Rattle.octets.specs.Bytes.{zeros}
use Rattle.octets.specs.Place.{area}
use Rattle.octets.proofs.Laws.{by_lower, zero_all, area_area}
use Rattle.radix.specs.Shape.{Shape, nil, node, nodes}
use Rattle.radix.specs.Record.{Nodes, nodes_of, label_of, value_of, tree_at, tree_of, marks_from, marks_of, is_free, is_flag, is_tidy, is_place, is_root, are_clean, is_placed}
use Rattle.keys.specs.Entries.{length_of}
use Rattle.radix.specs.Layout.{flag_of, value_or0, link_to, laid, blank, place_shape}
use Rattle.radix.proofs.Turns.{tree_nil, tree_node}
use Rattle.radix.proofs.Marks.{mark_none, mark_step}
use Rattle.radix.proofs.Cells.{Long, Same, same_trans, NodeAt, Labels, Stands, stands_same, Laid, laid_all}

-- a node's fields
module _ {x : Nodes} {p : ℕ} {l : List ℕ} {v : Option ℕ} {c n : ℕ} (a : NodeAt x p l v c n) (h : length l ≤ 16) where
  size : length_of x.len p ≡ length l
  size = let e : min (length l) 16 ≡ length l = omega arith in ap (λ (k : ℕ). min k 16) a.len ∙ e

  pub label_read : label_of x p ≡ l
  unfolding area
  label_read =
      ap (λ (k : ℕ). area (16 * p) k x.label) size
      ∙ sym (take-take (length l) 16 (drop (16 * p) x.label) h)
      ∙ ap (take (length l)) a.cell
      ∙ take_at l (drop (length l) (zeros 16)) (length l) refl

  pub value_read : value_of x p ≡ v
  value_read = ap₂ (λ (k w : ℕ). pick (eqb k 0) None (Some w)) a.key a.val ∙ go v
    where
      go : (o : Option ℕ) → pick (eqb (flag_of o) 0) None (Some (value_or0 o)) ≡ o
      go None = refl
      go (Some w) = refl

  flag_good : (o : Option ℕ) → is_flag (flag_of o) (value_or0 o) ≡ true
  flag_good None = refl
  flag_good (Some w) = refl

  zero_drop : (k m : ℕ) → k + m ≡ 16 → drop k (zeros 16) ≡ zeros m
  zero_drop k m e = ap (λ (j : ℕ). drop k (zeros j)) (sym e) ∙ go k
    where
      go : (k : ℕ) → drop k (zeros (k + m)) ≡ zeros m
      go zero = ap zeros (zero-add m)
      go (suc k) = ap (λ (j : ℕ). drop (suc k) (zeros j)) (suc-add k m) ∙ go k

  pub tidy_read : is_tidy x p ≡ true
  unfolding is_tidy area
  tidy_read =
      let k = length l in
      let t : area (16 * p + k) (16 - k) x.label ≡ zeros (16 - k) =
      sym (area_area (16 * p) 16 x.label k (16 - k) (omega arith))
      ∙ ap (λ (s : List ℕ). take (16 - k) (drop k s)) a.cell
      ∙ ap (take (16 - k)) (drop_at l (drop k (zeros 16)) k refl ∙ zero_drop k (16 - k) (omega arith))
      ∙ take_all (16 - k) (zeros (16 - k)) (omega (arith, length-replicate {A = ℕ} (16 - k) 0)) in
      rw (a.len, a.key, a.val, le-leb k 16 h, flag_good v, t) (zero_all (16 - k))

-- the tree
pub stands_tree : (s : Shape) (n f : ℕ) (x : Nodes) → Stands x n s → Labels s → n + nodes s ≤ 256 → nodes s ≤ f → tree_at f x (link_to n s) ≡ s
unfolding nodes
stands_tree nil n f x h l m k = tree_nil x f
stands_tree (node l v below later) n f x h g m k =
    let p = n + nodes later + nodes below in
    let e : n + (1 + nodes below + nodes later) - 1 ≡ p = omega arith in
    let a = h.0 in
    tree_node x f (n + (1 + nodes below + nodes later)) (omega arith) (omega arith) m
    ∙ ap (λ (q : ℕ). node (label_of x q) (value_of x q) (tree_at (f - 1) x (get_or x.child q 0)) (tree_at (f - 1) x (get_or x.next q 0))) e
    ∙ ap₂ (λ (u : List ℕ) (w : Option ℕ). node u w (tree_at (f - 1) x (get_or x.child p 0)) (tree_at (f - 1) x (get_or x.next p 0))) (label_read a g.0) (value_read a g.0)
    ∙ ap₂ (λ (u w : Shape). node l v u w)
    (ap (tree_at (f - 1) x) a.child ∙ stands_tree below (n + nodes later) (f - 1) x h.1.0 g.1.0 (omega arith) (omega arith))
    (ap (tree_at (f - 1) x) a.next ∙ stands_tree later n (f - 1) x h.1.1 g.1.1 (omega arith) (omega arith))

-- the marks
record Marked (x : Nodes) (n k f link : ℕ) (m : List ℕ) : Type 0 where
  out : List ℕ
  walk : marks_from f x.child x.next link m ≡ Some out
  long : length out ≡ 256
  inside : (q : ℕ) → n ≤ q → q < n + k → get_or out q 0 ≡ 1
  outside : (q : ℕ) → (n ≤ q → q < n + k → ⊥) → get_or out q 0 ≡ get_or m q 0

-- a place marked, then those below it, then those of its later siblings
module _ (n k j : ℕ) (m o r : List ℕ) where
  joined_inside : length m ≡ 256 → n + (1 + j + k) ≤ 256
      → ((q : ℕ) → n + k ≤ q → q < n + k + j → get_or o q 0 ≡ 1) → ((q : ℕ) → (n + k ≤ q → q < n + k + j → ⊥) → get_or o q 0 ≡ get_or (set m (n + k + j) 1) q 0)
      → ((q : ℕ) → n ≤ q → q < n + k → get_or r q 0 ≡ 1) → ((q : ℕ) → (n ≤ q → q < n + k → ⊥) → get_or r q 0 ≡ get_or o q 0)
      → (q : ℕ) → n ≤ q → q < n + (1 + j + k) → get_or r q 0 ≡ 1
  joined_inside l h bi bo ci co q p t =
      by_lower q (n + k) (λ u. ci q p u)
      (λ u. co q (λ y w. omega arith) ∙ by_lower q (n + k + j) (λ w. bi q u w)
      (λ w. let e : q ≡ n + k + j = omega arith in bo q (λ y z. omega arith) ∙ ap (λ (i : ℕ). get_or (set m (n + k + j) 1) i 0) e ∙ get_or-set_same m (n + k + j) 1 0 (omega arith)))

  joined_outside : ((q : ℕ) → (n + k ≤ q → q < n + k + j → ⊥) → get_or o q 0 ≡ get_or (set m (n + k + j) 1) q 0)
      → ((q : ℕ) → (n ≤ q → q < n + k → ⊥) → get_or r q 0 ≡ get_or o q 0)
      → (q : ℕ) → (n ≤ q → q < n + (1 + j + k) → ⊥) → get_or r q 0 ≡ get_or m q 0
  joined_outside bo co q d =
      co q (λ y w. d y (omega arith)) ∙ bo q (λ y w. d (omega arith) (omega arith)) ∙ get_or-set_other m (n + k + j) q 1 0 (λ e. d (omega arith) (omega arith))

stands_marks : (s : Shape) (n f : ℕ) (x : Nodes) (m : List ℕ) → Stands x n s → n + nodes s ≤ 256 → nodes s ≤ f → length m ≡ 256
    → ((q : ℕ) → n ≤ q → q < n + nodes s → get_or m q 0 ≡ 0) → Marked x n (nodes s) f (link_to n s) m
unfolding nodes
stands_marks nil n f x m h g k l z =
    record { out = m; walk = mark_none x.child x.next f 0 m refl; long = l; inside = λ q i j. absurd (omega arith); outside = λ q i. refl }
stands_marks (node u v below later) n f x m h g k l z =
    let j = n + nodes later in
    let p = j + nodes below in
    let i = n + (1 + nodes below + nodes later) in
    let e : i - 1 ≡ p = omega arith in
    let m1 = set m p 1 in
    let l1 : length m1 ≡ 256 = length-set m p 1 ∙ l in
    let a = h.0 in
    let b =
    stands_marks below j (f - 1) x m1 h.1.0 (omega arith) (omega arith) l1 (λ q r t. get_or-set_other m p q 1 0 (omega arith) ∙ z q (omega arith) (omega arith)) in
    let o1 : (q : ℕ) → q < j → get_or b.out q 0 ≡ get_or m q 0 = λ q r. b.outside q (λ t w. omega arith) ∙ get_or-set_other m p q 1 0 (omega arith) in
    let c = stands_marks later n (f - 1) x b.out h.1.1 (omega arith) (omega arith) b.long (λ q r t. o1 q t ∙ z q r (omega arith)) in
    let w : marks_from f x.child x.next i m ≡ Some c.out =
    mark_step x.child x.next f i m (omega arith) g (omega arith) (ap (λ (q : ℕ). get_or m q 0) e ∙ z p (omega arith) (omega arith))
    ∙ ap (λ (q : ℕ). marks_from (f - 1) x.child x.next (get_or x.child q 0) (set m q 1) >>= marks_from (f - 1) x.child x.next (get_or x.next q 0)) e
    ∙ ap₂ (λ (r t : ℕ). marks_from (f - 1) x.child x.next r m1 >>= marks_from (f - 1) x.child x.next t) a.child a.next
    ∙ ap (λ (r : Option (List ℕ)). r >>= marks_from (f - 1) x.child x.next (link_to n later)) b.walk
    ∙ c.walk in
    record {
      out = c.out;
      walk = w;
      long = c.long;
      inside = joined_inside n (nodes later) (nodes below) m b.out c.out l g b.inside b.outside c.inside c.outside;
      outside = joined_outside n (nodes later) (nodes below) m b.out c.out b.outside c.outside;
    }

-- every place in use is tidy
stands_tidy : (s : Shape) (n : ℕ) (x : Nodes) → Stands x n s → Labels s → (q : ℕ) → n ≤ q → q < n + nodes s → is_tidy x q ≡ true
unfolding nodes
stands_tidy nil n x h g q i j = absurd (omega arith)
stands_tidy (node l v below later) n x h g q i j =
    by_lower q (n + nodes later) (λ u. stands_tidy later n x h.1.1 g.1.1 q i u)
    (λ u. by_lower q (n + nodes later + nodes below) (λ w. stands_tidy below (n + nodes later) x h.1.0 g.1.0 q u w)
    (λ w. let e : n + nodes later + nodes below ≡ q = omega arith in subst (λ (p : ℕ). is_tidy x p ≡ true) e (tidy_read h.0 g.0)))

clean_all : (x : Nodes) (m : List ℕ) (i n : ℕ) → ((p : ℕ) → i ≤ p → p < i + n → is_place x m p ≡ true) → are_clean x m i n ≡ true
unfolding are_clean
clean_all x m i zero f = refl
clean_all x m i (suc n) f = rw (f i (omega arith) (omega arith)) (clean_all x m (i + 1) n (λ p r t. f p (omega arith) (omega arith)))

-- an empty pool
zero_area : (m at n : ℕ) → at + n ≤ m → area at n (zeros m) ≡ zeros n
unfolding area
zero_area m at n h =
    let r = m - (at + n) in
    let e : m ≡ at + (n + r) = omega arith in
    ap (λ (k : ℕ). take n (drop at (zeros k))) e
    ∙ ap (λ (l : List ℕ). take n (drop at l)) (sym (replicate-append-replicate {A = ℕ} at (n + r) 0))
    ∙ ap (take n) (drop_at (zeros at) (zeros (n + r)) at (length-replicate {A = ℕ} at 0))
    ∙ ap (take n) (sym (replicate-append-replicate {A = ℕ} n r 0))
    ∙ take_at (zeros n) (zeros r) n (length-replicate {A = ℕ} n 0)

blank_long : Long blank
unfolding blank
blank_long =
    record {
      len = length-replicate {A = ℕ} 256 0;
      key = length-replicate {A = ℕ} 256 0;
      child = length-replicate {A = ℕ} 256 0;
      next = length-replicate {A = ℕ} 256 0;
      val = length-replicate {A = ℕ} 256 0;
      label = length-replicate {A = ℕ} 4096 0;
    }

blank_cell : (q : ℕ) → q < 256 → area (16 * q) 16 blank.label ≡ zeros 16
unfolding blank
blank_cell q h = zero_area 4096 (16 * q) 16 (omega arith)

-- the record of a shape
module _ (s : Shape) (l : Labels s) (h : 1 + nodes s ≤ 256) where
  pool : Nodes
  pool = laid s 1 blank

  done : Laid s 1 blank pool
  unfolding pool
  done = laid_all s 1 blank blank_long h l (λ q i j. blank_cell q j)

  pub pool_long : Long (laid s 1 blank)
  unfolding pool
  pool_long = done.long

  all : Nodes
  all = nodes_of (place_shape s)

  link : get_or all.child 0 0 ≡ link_to 1 s
  unfolding all place_shape pool
  link = get_or-set_same pool.child 0 (link_to 1 s) 0 (omega (arith, done.long.child))

  rest : (q : ℕ) → 1 ≤ q → Same all pool q
  unfolding all place_shape pool
  rest q i = record { len = refl; key = refl; child = get_or-set_other pool.child 0 q (link_to 1 s) 0 (omega arith); next = refl; val = refl; cell = refl }

  there : Stands all 1 s
  there = stands_same s 1 (λ q i j. rest q i) done.stands

  tree : tree_of (place_shape s) ≡ s
  unfolding all place_shape
  tree = ap (tree_at 256 all) link ∙ stands_tree s 1 256 all there l h (omega arith)

  start : List ℕ
  start = set (zeros 256) 0 1

  marked : Marked all 1 (nodes s) 256 (link_to 1 s) start
  unfolding start
  marked =
      stands_marks s 1 256 all start there h (omega arith) (length-set (zeros 256) 0 1 ∙ length-replicate {A = ℕ} 256 0)
      (λ q i j. get_or-set_other (zeros 256) 0 q 1 0 (omega arith) ∙ get_or-replicate 256 q 0 0 (omega arith))

  marks : marks_of (place_shape s) ≡ Some marked.out
  unfolding all place_shape start
  marks = ap (λ (i : ℕ). marks_from 256 all.child all.next i start) link ∙ marked.walk

  -- the fields of the root's place, and of the free ones, are zero
  root_zero : (get_or all.len 0 0 ≡ 0) × (get_or all.key 0 0 ≡ 0) × (get_or all.next 0 0 ≡ 0) × (get_or all.val 0 0 ≡ 0) × (area 0 16 all.label ≡ zeros 16)
  unfolding all place_shape pool blank
  root_zero = let b = done.before 0 (omega arith) in (b.len, b.key, b.next, b.val, b.cell ∙ blank_cell 0 (omega arith))

  root : is_root all 0 ≡ true
  root = let z = root_zero in rw (z.0, z.1, z.2)

  root_tidy : is_tidy all 0 ≡ true
  unfolding is_tidy
  root_tidy = let z = root_zero in rw (z.0, z.1, z.3, z.4) (zero_all 16)

  free : (q : ℕ) → 1 + nodes s ≤ q → q < 256 → is_free all q ≡ true
  unfolding is_free blank
  free q i j =
      let b = same_trans (rest q (omega arith)) (done.after q i) in
      let z : get_or (zeros 256) q 0 ≡ 0 = get_or-replicate 256 q 0 0 j in
      rw (b.len ∙ z, b.key ∙ z, b.child ∙ z, b.next ∙ z, b.val ∙ z, b.cell ∙ blank_cell q j) (zero_all 16)

  mark_0 : get_or marked.out 0 0 ≡ 1
  unfolding start
  mark_0 = marked.outside 0 (λ i j. omega arith) ∙ get_or-set_same (zeros 256) 0 1 0 (omega (arith, length-replicate {A = ℕ} 256 0))

  free_place : (q : ℕ) → 1 + nodes s ≤ q → q < 256 → is_place all marked.out q ≡ true
  unfolding start
  free_place q w j =
      rw (marked.outside q (λ i k. omega arith) ∙ get_or-set_other (zeros 256) 0 q 1 0 (omega arith) ∙ get_or-replicate 256 q 0 0 j) (free q w j)

  clean : are_clean all marked.out 0 256 ≡ true
  clean =
      clean_all all marked.out 0 256 (λ q i j.
      by_lower q 1 (λ u. let e : 0 ≡ q = omega arith in subst (λ (p : ℕ). is_place all marked.out p ≡ true) e (rw (mark_0) root_tidy))
      (λ u. by_lower q (1 + nodes s) (λ w. rw (marked.inside q u w) (stands_tidy s 1 all there l q u w))
      (λ w. free_place q w (omega arith))))

  pub shape_placed : is_placed (place_shape s) ≡ true
  unfolding is_placed all place_shape
  shape_placed = rw (marks, root, clean)

  pub shape_tree : tree_of (place_shape s) ≡ s
  shape_tree = tree
