-- The tests at a node, one after the other. Assumes nothing.
use mathlib.Core.Bool.{Bool, true, false}
use mathlib.Core.Path.{◌≡◌, refl, sym, ap, ap₂, ◌∙◌}
use mathlib.Core.List.{List, [], ◌∷◌, ◌++◌}
use Prim.Native.Nat.{ℕ, zero, suc, ◌+◌, ◌*◌, ◌-◌, ◌^◌, ◌≤◌, ◌<◌}
use native.Mathlib.Nat.{add-zero, one-mul, mul-zero, mul_assoc, le-mul_of_pos_right}
use native.Mathlib.Omega.{arith}
use borrow.Author.Tests.{eq-eqb, ne_eqb, eqb-true, eqb-false, lt-ltb, le-ltb, le-leb, lt-leb}
use lib.Dec.{ltb, eqb}
use lib.ListN.{length, get_or, take, drop}
use lib.Pow.{pow-add}
use Rattle.octets.specs.Pick.{both}
use Rattle.octets.specs.Bytes.{Bytes, le_value, zeros}
use Rattle.octets.specs.Place.{area}
use Rattle.octets.specs.Compare.{all_zero}
use Rattle.octets.proofs.Laws.{both_assoc, both_false, all_zero_lem, zero_all, length_area, area_add, area_area, area_none, area_zeros, part_area, bytes_area, value_le_lt}
use Rattle.keys.specs.Entries.{length_of}
use Rattle.radix.specs.Canon.{is_nil, is_only, is_one_of}
use Rattle.radix.specs.Record.{Nodes, label_of, value_of, tree_at, is_root, is_tidy}
use Rattle.radix_bytes.specs.Bytes.{labels_at, record_size, pool_in}
use Rattle.radix_bytes.proofs.Laws.{label_of_lem}
use Rattle.radix_judge.specs.Visit.{rule_at, is_fit}

-- which rule is due
module _ (first : Bool) (least : ℕ) (x : Nodes) (left p : ℕ) (t : Bool) (e : t ≡ both first (is_nil (tree_at left x (get_or x.next p 0)))) where
  pub due_only : t ≡ true → (r : Bool) → r ≡ is_only (label_of x p) (value_of x p) (tree_at left x (get_or x.child p 0)) → r ≡ rule_at first least left x p
  unfolding rule_at
  due_only z r h = rw (← e, z) h

  pub due_one : t ≡ false → (r : Bool) → r ≡ is_one_of least (label_of x p) (value_of x p) (tree_at left x (get_or x.child p 0)) → r ≡ rule_at first least left x p
  unfolding rule_at
  due_one z r h = rw (← e, z) h

same_test : (a b : ℕ) → (a ≡ 0 → b ≡ 0) → (b ≡ 0 → a ≡ 0) → eqb a 0 ≡ eqb b 0
same_test a b f g = go (eqb b 0) refl
  where
    go : (t : Bool) → eqb b 0 ≡ t → eqb a 0 ≡ t
    go true e = eq-eqb a 0 (g (eqb-true b 0 e))
    go false e = ne_eqb a 0 (λ q. eqb-false b 0 e (f q))

-- by words, which may overlap
pub word_zero : (xs : List ℕ) → eqb (le_value xs) 0 ≡ all_zero xs
unfolding le_value all_zero
word_zero [] = refl
word_zero (b ∷ bs) = go (eqb b 0) refl (word_zero bs)
  where
    go : (t : Bool) → eqb b 0 ≡ t → eqb (le_value bs) 0 ≡ all_zero bs → eqb (b + 256 * le_value bs) 0 ≡ both t (all_zero bs)
    go false e h = let z = eqb-false b 0 e in ne_eqb (b + 256 * le_value bs) 0 (λ q. z (omega (arith, q)))
    go true e h =
        let z = eqb-true b 0 e in
        same_test (b + 256 * le_value bs) (le_value bs) (λ q. omega (arith, q)) (λ q. omega (arith, q, z)) ∙ h

all_append : (xs ys : List ℕ) → all_zero (xs ++ ys) ≡ both (all_zero xs) (all_zero ys)
unfolding all_zero
all_append [] ys = refl
all_append (x ∷ xs) ys = ap (both (eqb x 0)) (all_append xs ys) ∙ both_assoc (eqb x 0) (all_zero xs) (all_zero ys)

module _ (s : List ℕ) (at n : ℕ) (h : n ≤ 8) (l : at + 16 ≤ length s) where
  abbrev inner : List ℕ
  inner = area (at + n) (8 - n) s

  whole : area (at + n) (16 - n) s ≡ inner ++ area (at + 8) 8 s
  whole =
      let e : 16 - n ≡ (8 - n) + 8 = omega arith in
      let f : at + n + (8 - n) ≡ at + 8 = omega arith in
      ap (λ (i : ℕ). area (at + n) i s) e ∙ area_add (at + n) (8 - n) 8 s ∙ ap (λ (i : ℕ). inner ++ area i 8 s) f

  first_word : area (at + n) 8 s ≡ inner ++ area (at + 8) n s
  first_word =
      let e : 8 ≡ (8 - n) + n = omega arith in
      let f : at + n + (8 - n) ≡ at + 8 = omega arith in
      ap (λ (i : ℕ). area (at + n) i s) e ∙ area_add (at + n) (8 - n) n s ∙ ap (λ (i : ℕ). inner ++ area i n s) f

  pub second_not : all_zero (area (at + 8) 8 s) ≡ false → all_zero (area (at + n) (16 - n) s) ≡ false
  second_not z = ap all_zero whole ∙ all_append inner (area (at + 8) 8 s) ∙ ap (both (all_zero inner)) z ∙ both_false (all_zero inner)

  pub second_is : all_zero (area (at + 8) 8 s) ≡ true → all_zero (area (at + n) 8 s) ≡ all_zero (area (at + n) (16 - n) s)
  second_is z =
      let e : area (at + 8) n s ≡ zeros n = sym (area_area (at + 8) 8 s 0 n (omega arith) ∙ ap (λ (i : ℕ). area i n s) (add-zero (at + 8))) ∙ ap (area 0 n) (all_zero_lem (area (at + 8) 8 s) z ∙ ap zeros (length_area (at + 8) 8 s (omega arith))) ∙ area_zeros 0 n 8 (omega arith) in
      ap all_zero first_word ∙ all_append inner (area (at + 8) n s) ∙ ap (both (all_zero inner)) (ap all_zero e ∙ zero_all n ∙ sym z) ∙ sym (ap all_zero whole ∙ all_append inner (area (at + 8) 8 s))

-- a word's bytes after the first k are zero where it is below a power
one_more : (x a b c d : ℕ) → a ≡ b + c → d ≡ 256 * c → x + 256 * a ≡ x + 256 * b + d
one_more x a b c d e f = omega arith

value_append : (xs ys : List ℕ) → le_value (xs ++ ys) ≡ le_value xs + 2 ^ (8 * length xs) * le_value ys
unfolding le_value
value_append [] ys = omega (arith, one-mul (le_value ys))
value_append (x ∷ xs) ys =
    let e : 8 * suc (length xs) ≡ 8 + 8 * length xs = omega arith in
    let f : 2 ^ (8 * suc (length xs)) * le_value ys ≡ 256 * (2 ^ (8 * length xs) * le_value ys) =
    ap (λ (k : ℕ). 2 ^ k * le_value ys) e ∙ ap (λ (q : ℕ). q * le_value ys) (pow-add 2 8 (8 * length xs)) ∙ mul_assoc 256 (2 ^ (8 * length xs)) (le_value ys) in
    one_more x _ _ _ _ (value_append xs ys) f

below_power : (v w q : ℕ) → v < q → ltb (v + q * w) q ≡ eqb w 0
below_power v zero q h = ap (λ (i : ℕ). ltb (v + i) q) (mul-zero q) ∙ lt-ltb (v + 0) q (omega arith)
below_power v (suc w) q h =
    le-ltb (v + q * suc w) q (omega (arith, le-mul_of_pos_right {m = suc w} q (omega arith)))
    ∙ sym (ne_eqb (suc w) 0 (λ e. omega arith))

pub after_zero : (s : List ℕ) (at k : ℕ) → Bytes s → at + 8 ≤ length s → k ≤ 8 → ltb (le_value (area at 8 s)) (2 ^ (8 * k)) ≡ all_zero (area (at + k) (8 - k) s)
after_zero s at k b l h =
    let e : 8 ≡ k + (8 - k) = omega arith in
    let n : length (area at k s) ≡ k = length_area at k s (omega arith) in
    let lt : le_value (area at k s) < 2 ^ (8 * k) = rw n at (value_le_lt (area at k s) (bytes_area at k b)) in
    let v : le_value (area at 8 s) ≡ le_value (area at k s) + 2 ^ (8 * k) * le_value (area (at + k) (8 - k) s) =
    ap (λ (i : ℕ). le_value (area at i s)) e ∙ ap le_value (area_add at k (8 - k) s) ∙ value_append (area at k s) (area (at + k) (8 - k) s) ∙ ap (λ (i : ℕ). le_value (area at k s) + 2 ^ (8 * i) * le_value (area (at + k) (8 - k) s)) n in
    ap (λ (i : ℕ). ltb i (2 ^ (8 * k))) v ∙ below_power (le_value (area at k s)) (le_value (area (at + k) (8 - k) s)) (2 ^ (8 * k)) lt ∙ word_zero (area (at + k) (8 - k) s)

-- a label by its bytes
pub label_tail : (s : List ℕ) (p n : ℕ) → p < 256 → n ≤ 16 → area (labels_at + 16 * p + n) (16 - n) s ≡ area (16 * p + n) (16 - n) (pool_in s).label
label_tail s p n h k =
    let f : labels_at + 16 * p + n ≡ labels_at + (16 * p + n) = omega arith in
    ap (λ (i : ℕ). area i (16 - n) s) f ∙ sym (label_of_lem s p h n (16 - n) (omega arith))

-- a label of 16 bytes, and one of more than 8
pub label_full : (xs : List ℕ) (at n : ℕ) → n ≡ 16 → true ≡ all_zero (area at (16 - n) xs)
unfolding all_zero
label_full xs at n e =
    let z : 16 - n ≡ 0 = omega arith in
    sym (ap (λ (i : ℕ). all_zero (area at i xs)) z ∙ ap all_zero (area_none at xs))

pub label_long : (s : List ℕ) (p n : ℕ) → p < 256 → 8 < n → n ≤ 16 → area (labels_at + 16 * p + 8 + (n - 8)) (8 - (n - 8)) s ≡ area (16 * p + n) (16 - n) (pool_in s).label
label_long s p n h j k =
    let e : labels_at + 16 * p + 8 + (n - 8) ≡ labels_at + 16 * p + n = omega arith in
    let f : 8 - (n - 8) ≡ 16 - n = omega arith in
    ap₂ (λ (a b : ℕ). area a b s) e f ∙ label_tail s p n h k

-- a whole one by two words
pub label_words : (s : List ℕ) (p : ℕ) → p < 256 → record_size ≤ length s → all_zero (area (16 * p) 16 (pool_in s).label) ≡ both (all_zero (area (labels_at + 16 * p) 8 s)) (all_zero (area (labels_at + 16 * p + 8) 8 s))
label_words s p h l =
    let f : labels_at + (16 * p + 0) ≡ labels_at + 16 * p = omega arith in
    let g : 16 * p ≡ 16 * p + 0 = omega arith in
    ap (λ (i : ℕ). all_zero (area i 16 (pool_in s).label)) g ∙ ap all_zero (label_of_lem s p h 0 16 (omega arith) ∙ ap (λ (i : ℕ). area i 16 s) f ∙ area_add (labels_at + 16 * p) 8 8 s) ∙ all_append (area (labels_at + 16 * p) 8 s) (area (labels_at + 16 * p + 8) 8 s)

pub label_zero : (s : List ℕ) (p : ℕ) → p < 256
    → all_zero (take (labels_at + 16 * p + 16 - (labels_at + 16 * p)) (drop (labels_at + 16 * p) s)) ≡ all_zero (area (16 * p) 16 (pool_in s).label)
label_zero s p h =
    let e : labels_at + 16 * p + 16 - (labels_at + 16 * p) ≡ 16 = omega arith in
    let f : labels_at + 16 * p ≡ labels_at + (16 * p + 0) = omega arith in
    let g : 16 * p + 0 ≡ 16 * p = omega arith in
    ap all_zero (part_area (labels_at + 16 * p) (labels_at + 16 * p + 16 - (labels_at + 16 * p)) s ∙ ap₂ (λ (i j : ℕ). area i j s) f e ∙ sym (label_of_lem s p h 0 16 (omega arith)) ∙ ap (λ (i : ℕ). area i 16 (pool_in s).label) g)

-- the root: what is left to test once its length, its key flag and its sibling are zero
module _ (s : List ℕ) (p : ℕ) (el : get_or (pool_in s).len p 0 ≡ 0) (ek : get_or (pool_in s).key p 0 ≡ 0) (en : get_or (pool_in s).next p 0 ≡ 0) where
  root_rest : both (is_root (pool_in s) p) (is_tidy (pool_in s) p) ≡ both (eqb (get_or (pool_in s).val p 0) 0) (all_zero (area (16 * p) 16 (pool_in s).label))
  unfolding is_tidy
  root_rest = rw (el, ek, en, add-zero)

  pub root_value : (get_or (pool_in s).val p 0 ≡ 0 → ⊥) → false ≡ both (is_root (pool_in s) p) (is_tidy (pool_in s) p)
  root_value z = rw (root_rest, ne_eqb _ _ z)

  pub root_label : get_or (pool_in s).val p 0 ≡ 0 → p < 256 → record_size ≤ length s
      → both (is_root (pool_in s) p) (is_tidy (pool_in s) p) ≡ both (all_zero (area (labels_at + 16 * p) 8 s)) (all_zero (area (labels_at + 16 * p + 8) 8 s))
  root_label z h l = root_rest ∙ ap (λ (v : ℕ). both (eqb v 0) (all_zero (area (16 * p) 16 (pool_in s).label))) z ∙ label_words s p h l

-- all tests
module _ (first : Bool) (least most : ℕ) (x : Nodes) (p d n : ℕ) (a : Bool) (ea : a ≡ is_tidy x p) where
  pub fit_tidy : a ≡ false → false ≡ is_fit first least most x p d n
  unfolding is_fit
  fit_tidy z = rw (← ea, z)

  module _ (z : a ≡ true) (b : Bool) (eb : b ≡ rule_at first least most x p) where
    pub fit_rule : b ≡ false → false ≡ is_fit first least most x p d n
    unfolding is_fit
    fit_rule y = rw (← ea, z, ← eb, y)

    module _ (y : b ≡ true) (l : ℕ) (el : l ≡ length_of x.len p) where
      pub fit_short : 16 < d + l → false ≡ is_fit first least most x p d n
      unfolding is_fit
      fit_short h = rw (← ea, z, ← eb, y, ← el, lt-leb (d + l) 16 h)

      module _ (w : d + l ≤ 16) (k : ℕ) (ek : k ≡ get_or x.key p 0) where
        pub fit_few : 64 < n + k → false ≡ is_fit first least most x p d n
        unfolding is_fit
        fit_few h = rw (← ea, z, ← eb, y, ← el, le-leb (d + l) 16 w, ← ek, lt-leb (n + k) 64 h)

        pub fit_value : n + k ≤ 64 → (t : Bool) → t ≡ ltb (get_or x.val p 0) (2 ^ 32) → t ≡ is_fit first least most x p d n
        unfolding is_fit
        fit_value h t e = rw (← ea, z, ← eb, y, ← el, le-leb (d + l) 16 w, ← ek, le-leb (n + k) 64 h) e
