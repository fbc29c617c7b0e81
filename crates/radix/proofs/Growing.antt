-- One step of `grow`: what the code works out of the rows is what `sprout` makes of their entries. Assumes nothing.
use mathlib.Core.Bool.{Bool, true, false}
use mathlib.Core.Path.{◌≡◌, refl, sym, ap, ap₂, ◌∙◌, subst, subst⁻¹}
use mathlib.Core.List.{List, [], ◌∷◌}
use Rattle.std.proofs.Common.{Option, Some, None}
use Prim.Native.Nat.{ℕ, zero, suc, ◌+◌, ◌*◌, ◌-◌, ◌≤◌, ◌<◌}
use native.Mathlib.Nat.{add-zero}
use native.Mathlib.Omega.{arith}
use borrow.Author.Tests.{eq-eqb, ne_eqb, eqb-true, eqb-false}
use lib.Dec.{eqb}
use lib.ListN.{length, take, drop, get_or, length-drop}
use lib.Seq.{take-take}
use Rattle.octets.specs.Pick.{pick, both}
use Rattle.octets.specs.Place.{area}
use Rattle.octets.proofs.Laws.{length_area}
use Rattle.keys.specs.Entries.{Entry, entry, rising, length_of}
use Rattle.radix.specs.Shape.{Shape, nil, node, nodes, common, cut, prefix_of, first_byte}
use Rattle.radix.specs.Record.{Nodes}
use Rattle.keys.specs.Table.{Columns, rows_from}
use Rattle.radix.specs.Layout.{flag_of, value_or0, link_to, with_cell, laid}
use Rattle.radix.specs.Sprout.{alike, group, stretch, own_first, after_own, first_key, sprout_node, sprout_all, sprout}
use Rattle.radix.specs.Rows.{alike_at, share_at, rest_at, Ready}
use Rattle.radix.proofs.Under.{under}
use Rattle.radix.proofs.Keys.{From}
use Rattle.keys.proofs.Laws.{rising_right}
use Rattle.radix.proofs.Turns.{first_some}
use Rattle.radix.proofs.Branches.{Grouped, grouped, group_drop, group_sum, Branch, branch, branch_rest, after_from, after_rising}
use Rattle.radix.proofs.Laying.{drop_area, cut_cons, cut_length, cut_take, cut_drop, cut_cut, long_from, from_long, alike_rest, prefix_ends, last_of}

same_test : (a m b : ℕ) → a ≤ m → a ≤ b → eqb (m - a) (b - a) ≡ eqb m b
same_test a m b h k = go (eqb m b) refl
  where
    go : (t : Bool) → eqb m b ≡ t → eqb (m - a) (b - a) ≡ t
    go true e = eq-eqb (m - a) (b - a) (ap (λ (x : ℕ). x - a) (eqb-true m b e))
    go false e = let z : m ≡ b → ⊥ = eqb-false m b e in ne_eqb (m - a) (b - a) (λ y. z (omega arith))

last_row : (t : Columns) (d i n : ℕ) (e : Entry)
    → last_of e (cut d (rows_from t i (suc n))) ≡ entry (drop d (area (16 * (i + n)) (length_of t.len (i + n)) t.key)) (get_or t.val (i + n) 0)
unfolding cut rows_from
last_row t d i zero e = rw add-zero
last_row t d i (suc n) e = let p : i + 1 + n ≡ i + suc n = omega arith in
    last_row t d (i + 1) n (entry (drop d (area (16 * i) (length_of t.len i) t.key)) (get_or t.val i 0)) ∙ ap (λ (j : ℕ). entry (drop d (area (16 * j) (length_of t.len j) t.key)) (get_or t.val j 0)) p

common_short : (x y : List ℕ) → length (common x y) ≤ length x
unfolding common
common_short [] y = omega arith
common_short (a ∷ x) [] = omega arith
common_short (a ∷ x) (b ∷ y) = go (eqb a b) (common_short x y)
  where
    go : (t : Bool) → length (common x y) ≤ length x → length (pick t (a ∷ common x y) []) ≤ suc (length x)
    go true h = omega arith
    go false h = omega arith

module _ (t : Columns) (left : ℕ) (first : Bool) (a b d at : ℕ) (r : Ready t left first a b d at) (lt : a < b) where
  head : Entry
  head = entry (drop d (area (16 * a) (length_of t.len a) t.key)) (get_or t.val a 0)

  tail : List Entry
  tail = cut d (rows_from t (a + 1) (b - (a + 1)))

  parts : rest_at t d a b ≡ head ∷ tail
  unfolding head tail
  parts = let e : b - a ≡ suc (b - (a + 1)) = omega arith in ap (λ (n : ℕ). cut d (rows_from t a n)) e ∙ cut_cons t d a (b - (a + 1))

  row_long : d < length_of t.len a
  row_long = r.long a (omega arith) lt

  all_long : From 0 (rest_at t d a b)
  all_long = long_from t d r.keys a (b - a) (omega (arith, r.order, r.most)) (λ j p q. r.long j p (omega (arith, r.order)))

  risen : rising (head ∷ tail) ≡ true
  risen = ap rising (sym parts) ∙ r.rises

  grp : Grouped (rest_at t d a b)
  grp = subst⁻¹ Grouped parts (grouped head tail risen (subst (From 0) parts all_long).0)

  sized : length (rest_at t d a b) ≡ b - a
  sized = cut_length t d a (b - a)

  first_byte_lem : first_byte head.key ≡ get_or t.key (16 * a + d) 0
  unfolding head
  first_byte_lem =
      ap first_byte (drop_area d (16 * a) (length_of t.len a) t.key (omega (arith, row_long)))
      ∙ sym (first_some t.key (16 * a + d) (length_of t.len a - d) (omega (arith, r.keys, r.most, row_long)) (omega (arith, row_long)))

  grouping : group (rest_at t d a b) ≡ suc (alike_at t.key d (get_or t.key (16 * a + d) 0) (a + 1) (b - (a + 1)))
  unfolding tail
  grouping =
      ap group parts
      ∙ ap suc (ap (λ (c : ℕ). alike c tail) first_byte_lem ∙ alike_rest t d r.keys (get_or t.key (16 * a + d) 0) (a + 1) (b - (a + 1)) (omega (arith, r.most)) (λ j p q. r.long j (omega arith) (omega arith)))

  sharing : length (prefix_of (rest_at t d a b)) ≡ share_at t.len t.key d a (b - 1)
  unfolding head tail cut rows_from
  sharing =
      ap length (ap prefix_of parts ∙ prefix_ends head tail risen ∙ ap₂ common (drop_area d (16 * a) (length_of t.len a) t.key (omega (arith, row_long))) (ends (eqb (a + 1) b) refl))
    where
      ends : (u : Bool) → eqb (a + 1) b ≡ u → (last_of head tail).key ≡ area (16 * (b - 1) + d) (length_of t.len (b - 1) - d) t.key
      ends true e =
          let p : b - (a + 1) ≡ 0 = let q : a + 1 ≡ b = eqb-true (a + 1) b e in omega arith in
          let q : a ≡ b - 1 = let q : a + 1 ≡ b = eqb-true (a + 1) b e in omega arith in
          ap (λ (n : ℕ). (last_of head (cut d (rows_from t (a + 1) n))).key) p
          ∙ drop_area d (16 * a) (length_of t.len a) t.key (omega (arith, row_long))
          ∙ ap (λ (i : ℕ). area (16 * i + d) (length_of t.len i - d) t.key) q
      ends false e =
          let z : a + 1 ≡ b → ⊥ = eqb-false (a + 1) b e in
          let p : b - (a + 1) ≡ suc (b - (a + 2)) = omega arith in
          let q : a + 1 + (b - (a + 2)) ≡ b - 1 = omega arith in
          ap (λ (n : ℕ). (last_of head (cut d (rows_from t (a + 1) n))).key) p
          ∙ ap (λ (e : Entry). e.key) (last_row t d (a + 1) (b - (a + 2)) head)
          ∙ ap (λ (i : ℕ). drop d (area (16 * i) (length_of t.len i) t.key)) q
          ∙ drop_area d (16 * (b - 1)) (length_of t.len (b - 1)) t.key (omega (arith, r.long (b - 1) (omega arith) (omega arith)))

  -- m is the end of the first group, n the length of its label
  module _ (m n : ℕ) (em : m ≡ a + 1 + alike_at t.key d (get_or t.key (16 * a + d) 0) (a + 1) (b - (a + 1)))
      (en : n ≡ pick (both first (eqb m b)) (share_at t.len t.key d a (b - 1)) 1) where
    grouped_by : group (rest_at t d a b) ≡ m - a
    grouped_by = omega (arith, grouping)

    pub end_within : (a < m) × (m ≤ b)
    end_within = omega (arith, grouping, group_sum (rest_at t d a b) grp, sized)

    stretched : stretch first (rest_at t d a b) ≡ n
    stretched =
        ap₂ (λ (u : Bool) (k : ℕ). pick (both first u) k 1)
        (ap₂ eqb grouped_by sized ∙ same_test a m b (omega (arith, end_within)) (omega arith)) sharing
        ∙ sym en

    brn : Branch first (rest_at t d a b)
    brn = branch first (rest_at t d a b) grp r.rises

    front : take (group (rest_at t d a b)) (rest_at t d a b) ≡ cut d (rows_from t a (m - a))
    front = ap (λ (k : ℕ). take k (rest_at t d a b)) grouped_by ∙ cut_take t d (m - a) a (b - a) (omega (arith, end_within))

    back : drop (group (rest_at t d a b)) (rest_at t d a b) ≡ rest_at t d m b
    back =
        let p = end_within in
        let e : a + (m - a) ≡ m = omega arith in
        let f : b - a - (m - a) ≡ b - m = omega arith in
        ap (λ (k : ℕ). drop k (rest_at t d a b)) grouped_by ∙ cut_drop t d (m - a) a (b - a) (omega arith) ∙ ap₂ (λ (i k : ℕ). cut d (rows_from t i k)) e f

    inner : cut (stretch first (rest_at t d a b)) (take (group (rest_at t d a b)) (rest_at t d a b)) ≡ rest_at t (d + n) a m
    inner = ap₂ cut stretched front ∙ cut_cut d n (rows_from t a (m - a))

    rest_is : brn.rest ≡ rest_at t (d + n) a m
    rest_is = sym (branch_rest brn) ∙ inner

    first_key_lem : first_key (take (group (rest_at t d a b)) (rest_at t d a b)) ≡ area (16 * a + d) (length_of t.len a - d) t.key
    first_key_lem =
        let p = end_within in
        let e : m - a ≡ suc (m - a - 1) = omega arith in
        ap first_key (front ∙ ap (λ (k : ℕ). cut d (rows_from t a k)) e ∙ cut_cons t d a (m - a - 1)) ∙ drop_area d (16 * a) (length_of t.len a) t.key (omega (arith, row_long))

    pub label_fits : d + n ≤ length_of t.len a
    label_fits = go first (eqb m b) en
      where
        go : (f u : Bool) → n ≡ pick (both f u) (share_at t.len t.key d a (b - 1)) 1 → d + n ≤ length_of t.len a
        go false u e = omega (arith, row_long)
        go true false e = omega (arith, row_long)
        go true true e =
            let c = common_short (area (16 * a + d) (length_of t.len a - d) t.key) (area (16 * (b - 1) + d) (length_of t.len (b - 1) - d) t.key) in
            omega (arith, row_long, length_area (16 * a + d) (length_of t.len a - d) t.key (omega (arith, r.keys, r.most, row_long)))

    pub label_some : 1 ≤ n
    label_some = omega (arith, brn.long, brn.size, stretched)

    label_is : take (stretch first (rest_at t d a b)) (first_key (take (group (rest_at t d a b)) (rest_at t d a b))) ≡ area (16 * a + d) n t.key
    unfolding area
    label_is = ap₂ take stretched first_key_lem ∙ take-take n (length_of t.len a - d) (drop (16 * a + d) t.key) (omega (arith, label_fits))

    -- the first row may end at the label
    module _ (u : Bool) (eu : eqb (length_of t.len a) (d + n) ≡ u) where
      first_rest : List ℕ
      first_rest = drop (d + n) (area (16 * a) (length_of t.len a) t.key)

      first_size : length first_rest ≡ length_of t.len a - (d + n)
      unfolding first_rest
      first_size = omega (arith, length-drop (d + n) (area (16 * a) (length_of t.len a) t.key), length_area (16 * a) (length_of t.len a) t.key (omega (arith, r.keys, r.most)))

      rows_cons : rest_at t (d + n) a m ≡ entry first_rest (get_or t.val a 0) ∷ rest_at t (d + n) (a + 1) m
      unfolding first_rest
      rows_cons =
          let p = end_within in
          let e : m - a ≡ suc (m - (a + 1)) = omega arith in
          ap (λ (k : ℕ). cut (d + n) (rows_from t a k)) e ∙ cut_cons t (d + n) a (m - (a + 1))

      by_key : (k : List ℕ) (v : ℕ) (es : List Entry) (w : Bool) → (w ≡ true → length k ≡ 0) → (w ≡ false → 1 ≤ length k)
          → (own_first (entry k v ∷ es) ≡ pick w (Some v) None) × (after_own (entry k v ∷ es) ≡ pick w es (entry k v ∷ es))
      by_key [] v es true p q = (refl, refl)
      by_key [] v es false p q = absurd (omega (arith, q refl))
      by_key (c ∷ k) v es true p q = absurd (omega (arith, p refl))
      by_key (c ∷ k) v es false p q = (refl, refl)

      own_parts : (own_first (entry first_rest (get_or t.val a 0) ∷ rest_at t (d + n) (a + 1) m) ≡ pick u (Some (get_or t.val a 0)) None)
          × (after_own (entry first_rest (get_or t.val a 0) ∷ rest_at t (d + n) (a + 1) m) ≡ pick u (rest_at t (d + n) (a + 1) m) (entry first_rest (get_or t.val a 0) ∷ rest_at t (d + n) (a + 1) m))
      own_parts =
          by_key first_rest (get_or t.val a 0) (rest_at t (d + n) (a + 1) m) u
          (λ w. let z : length_of t.len a ≡ d + n = eqb-true (length_of t.len a) (d + n) (eu ∙ w) in omega (arith, first_size))
          (λ w. let z : length_of t.len a ≡ d + n → ⊥ = eqb-false (length_of t.len a) (d + n) (eu ∙ w) in omega (arith, first_size, label_fits))

      own_is : own_first (rest_at t (d + n) a m) ≡ pick u (Some (get_or t.val a 0)) None
      own_is = ap own_first rows_cons ∙ own_parts.0

      after_is : after_own (rest_at t (d + n) a m) ≡ rest_at t (d + n) (a + pick u 1 0) m
      after_is = ap after_own rows_cons ∙ own_parts.1 ∙ go u
        where
          go : (w : Bool) → pick w (rest_at t (d + n) (a + 1) m) (entry first_rest (get_or t.val a 0) ∷ rest_at t (d + n) (a + 1) m) ≡ rest_at t (d + n) (a + pick w 1 0) m
          go true = refl
          go false = sym rows_cons ∙ ap (λ (i : ℕ). rest_at t (d + n) i m) (sym (add-zero a))

      -- the node, and what it needs of the rows below and of the later ones
      pub grown : 0 < left → sprout left first (rest_at t d a b)
          ≡ node (area (16 * a + d) n t.key) (pick u (Some (get_or t.val a 0)) None)
          (sprout (left - 1) true (rest_at t (d + n) (a + pick u 1 0) m)) (sprout (left - 1) false (rest_at t d m b))
      unfolding sprout
      grown h =
          let e : left ≡ suc (left - 1) = omega arith in
          ap (λ (k : ℕ). sprout k first (rest_at t d a b)) e
          ∙ opened (sprout (left - 1))
          ∙ ap₂ (λ (l : List ℕ) (z : List Entry). node l (own_first z) (sprout (left - 1) true (after_own z)) (sprout (left - 1) false (drop (group (rest_at t d a b)) (rest_at t d a b)))) label_is inner
          ∙ ap₂ (λ (o : Option ℕ) (z : List Entry). node (area (16 * a + d) n t.key) o (sprout (left - 1) true z) (sprout (left - 1) false (drop (group (rest_at t d a b)) (rest_at t d a b)))) own_is after_is
          ∙ ap (λ (z : List Entry). node (area (16 * a + d) n t.key) (pick u (Some (get_or t.val a 0)) None) (sprout (left - 1) true (rest_at t (d + n) (a + pick u 1 0) m)) (sprout (left - 1) false z)) back
        where
          opened : (go : Bool → List Entry → Shape) → sprout_all go first (rest_at t d a b)
              ≡ sprout_node go (stretch first (rest_at t d a b)) (take (group (rest_at t d a b)) (rest_at t d a b)) (drop (group (rest_at t d a b)) (rest_at t d a b))
          opened go = subst⁻¹ (λ (es : List Entry). sprout_all go first es ≡ sprout_node go (stretch first es) (take (group es) es) (drop (group es) es)) parts refl

      skip_one : pick u 1 0 ≤ 1
      skip_one = go u
        where
          go : (w : Bool) → pick w 1 0 ≤ 1
          go true = omega arith
          go false = omega arith

      sum : 0 < left → nodes (sprout left first (rest_at t d a b))
          ≡ 1 + nodes (sprout (left - 1) true (rest_at t (d + n) (a + pick u 1 0) m)) + nodes (sprout (left - 1) false (rest_at t d m b))
      unfolding nodes
      sum h = ap nodes (grown h)

      pub ready_later : 0 < left → Ready t (left - 1) false m b d at
      ready_later h =
          let p = end_within in
          record {
            order = p.1;
            most = r.most;
            deep = r.deep;
            keys = r.keys;
            long = λ i u w. r.long i (omega arith) w;
            rises =
                subst (λ (es : List Entry). rising es ≡ true) (sym (group_drop (rest_at t d a b) grp) ∙ back)
                (rising_right (under (grp.b ∷ []) grp.inside) grp.later (ap rising (sym grp.joined) ∙ r.rises));
            room = omega (arith, sum h, r.room);
          }

      below_from : From 0 (rest_at t (d + n) (a + pick u 1 0) m)
      below_from = subst (From 0) (ap after_own rest_is ∙ after_is) (after_from brn.rest brn.rises)

      below_rising : rising (rest_at t (d + n) (a + pick u 1 0) m) ≡ true
      below_rising = subst (λ (es : List Entry). rising es ≡ true) (ap after_own rest_is ∙ after_is) (after_rising brn.rest brn.rises)

      pub ready_below : 0 < left → (f : ℕ) → f ≡ at + nodes (sprout (left - 1) false (rest_at t d m b))
          → Ready t (left - 1) true (a + pick u 1 0) m (d + n) f
      ready_below h f e =
          let p = end_within in
          let s = skip_one in
          record {
            order = omega arith;
            most = omega (arith, r.most);
            deep = omega (arith, label_fits);
            keys = r.keys;
            long = λ i v w. from_long t (d + n) r.keys (a + pick u 1 0) (m - (a + pick u 1 0)) (omega (arith, r.most)) below_from i v (omega arith);
            rises = below_rising;
            room = omega (arith, sum h, r.room);
          }

      pub place_within : 0 < left → at + nodes (sprout (left - 1) false (rest_at t d m b)) + nodes (sprout (left - 1) true (rest_at t (d + n) (a + pick u 1 0) m)) < 256
      place_within h = omega (arith, sum h, r.room)

-- links
pub link_is : (n : ℕ) (s : Shape) → pick (eqb n (n + nodes s)) 0 (n + nodes s) ≡ link_to n s
unfolding nodes
link_is n nil = rw (add-zero, eq-eqb n n refl)
link_is n (node l v below later) = let z : n ≡ n + (1 + nodes below + nodes later) → ⊥ = omega arith in rw (ne_eqb n (n + (1 + nodes below + nodes later)) z)

pub laid_step : {s : Shape} (l : List ℕ) (u : Bool) (v : ℕ) (below later : Shape) (x : Nodes) (at f g : ℕ) (o : Option ℕ) (c n : ℕ) (y : Nodes)
    → s ≡ node l (pick u (Some v) None) below later → f ≡ at + nodes later → g ≡ f + nodes below
    → o ≡ pick u (Some v) None → c ≡ pick (eqb f g) 0 g → n ≡ pick (eqb at f) 0 f
    → y ≡ with_cell (laid below f (laid later at x)) g l (flag_of o) (value_or0 o) c n
    → (g + 1 ≡ at + nodes s) × (y ≡ laid s at x)
unfolding laid nodes
laid_step {s} l u v below later x at f g o c n y e ef eg eo ec en ey =
    let ck : c ≡ link_to (at + nodes later) below = ec ∙ ap (λ (k : ℕ). pick (eqb f k) 0 k) eg ∙ link_is f below ∙ ap (λ (k : ℕ). link_to k below) ef in
    let nk : n ≡ link_to at later = en ∙ ap (λ (k : ℕ). pick (eqb at k) 0 k) ef ∙ link_is at later in
    let gk : g ≡ at + nodes later + nodes below = eg ∙ ap (λ (k : ℕ). k + nodes below) ef in
    (omega (arith, ap nodes e), ey ∙ rw (e, ← ck, ← nk, ← gk, ← ef, ← eo))

-- nothing to lay
pub laid_none : {s : Shape} (at : ℕ) (x : Nodes) → s ≡ nil → (at ≡ at + nodes s) × (x ≡ laid s at x)
unfolding laid nodes
laid_none at x e = rw e (omega arith, refl)

pub sprout_end : (left : ℕ) (first : Bool) (es : List Entry) → left ≡ 0 → sprout left first es ≡ nil
unfolding sprout
sprout_end left first es e = rw e

pub link_small : (a b : ℕ) → b ≤ 256 → pick (eqb a b) 0 b < 65536
link_small a b h = go (eqb a b)
  where
    go : (u : Bool) → pick u 0 b < 65536
    go true = omega arith
    go false = omega arith
