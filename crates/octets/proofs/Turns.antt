-- What a loop has left to do, a turn later. Assumes nothing.
use mathlib.Core.Path.{◌≡◌, sym, ap, ap₂, ◌∙◌}
use mathlib.Core.Bool.{Bool, true, false}
use mathlib.Core.List.{List, [], ◌∷◌, ◌++◌}
use Prim.Native.Nat.{ℕ, suc, ◌+◌, ◌-◌, ◌*◌, ◌/◌, ◌%◌, ◌^◌, ◌≤◌, ◌<◌}
use native.Mathlib.Nat.{add_assoc}
use native.Mathlib.Numerals.{add-one}
use native.Mathlib.Omega.{arith}
use lib.Dec.{eqb}
use lib.ListN.{length, drop, get_or, set, drop_of_length-le}
use lib.Pow.{pow_mono}
use borrow.Author.Tests.{eq-eqb, ne_eqb}
use Rattle.octets.specs.Pick.{both}
use Rattle.octets.specs.Bytes.{le, le_value, be, be_from, be_value}
use Rattle.octets.specs.Place.{area, put}
use Rattle.octets.specs.Compare.{all_zero}
use Rattle.octets.proofs.Tested.{both_assoc}
use Rattle.octets.proofs.Digits.{pow_byte}
use Rattle.octets.proofs.Put.{put_first, put_last, put_none}
use Rattle.octets.proofs.Areas.{cut, area_first, area_last, area_none, area_set_before, area_set_after, length_area}

-- numbers: 8 bytes fit, and one byte more is 8 bits more
pub fits : (i v : ℕ) → i < 8 → v < 2 ^ (8 * i) → v < 2 ^ 56
fits i v h k =
    let m : 8 * i ≤ 56 = omega arith in
    omega (arith, pow_mono m)

pub grows : (i j v b : ℕ) → j ≡ i + 1 → v < 2 ^ (8 * i) → b < 256 → v * 256 + b < 2 ^ (8 * j)
grows i j v b q h k =
    let e : 2 ^ (8 * j) ≡ 256 * 2 ^ (8 * i) = ap (λ (n : ℕ). 2 ^ (8 * n)) (q ∙ add-one i) ∙ pow_byte i in
    omega arith

pub below_at : (i j v : ℕ) → i ≡ j → v < 2 ^ (8 * i) → v < 2 ^ (8 * j)
below_at i j v e h = omega (arith, ap (λ (n : ℕ). 2 ^ (8 * n)) e)

-- an area's first byte, from its end or its start
pub area_next : (s : List ℕ) (at i n : ℕ) → i < n → at + n ≤ length s
    → area (at + i) (n - i) s ≡ get_or s (at + i) 0 ∷ area (at + (i + 1)) (n - (i + 1)) s
area_next s at i n h k =
    let q : n - i ≡ n - (i + 1) + 1 = omega arith in
    ap (λ (m : ℕ). area (at + i) m s) q
    ∙ area_first (at + i) (n - (i + 1)) s (omega arith)
    ∙ ap (λ (j : ℕ). get_or s (at + i) 0 ∷ area j (n - (i + 1)) s) (add_assoc at i 1)

pub area_back : (s : List ℕ) (at k : ℕ) → 0 < k → at + k ≤ length s → area at k s ≡ area at (k - 1) s ++ (get_or s (at + (k - 1)) 0 ∷ [])
area_back s at k h l =
    let q : k ≡ k - 1 + 1 = omega arith in
    ap (λ (m : ℕ). area at m s) q ∙ area_last at (k - 1) s (omega arith)

pub le_more : (s : List ℕ) (at k n v : ℕ) → 0 < k → k ≤ n → at + n ≤ length s → v ≡ le_value (area (at + k) (n - k) s)
    → v * 256 + get_or s (at + (k - 1)) 0 ≡ le_value (area (at + (k - 1)) (n - (k - 1)) s)
unfolding le_value
le_more s at k n v h l m e =
    let j : k - 1 + 1 ≡ k = omega arith in
    let a : le_value (area (at + (k - 1 + 1)) (n - (k - 1 + 1)) s) ≡ v = ap (λ (i : ℕ). le_value (area (at + i) (n - i) s)) j ∙ sym e in
    let b : le_value (area (at + (k - 1)) (n - (k - 1)) s) ≡ get_or s (at + (k - 1)) 0 + 256 * v =
    ap le_value (area_next s at (k - 1) n (omega arith) m) ∙ ap (λ (x : ℕ). get_or s (at + (k - 1)) 0 + 256 * x) a in
    omega arith

pub be_more : (s : List ℕ) (at i n v : ℕ) → i < n → at + n ≤ length s
    → be_from v (area (at + i) (n - i) s) ≡ be_from (v * 256 + get_or s (at + i) 0) (area (at + (i + 1)) (n - (i + 1)) s)
unfolding be_from
be_more s at i n v h k =
    let q : 256 * v + get_or s (at + i) 0 ≡ v * 256 + get_or s (at + i) 0 = omega arith in
    ap (be_from v) (area_next s at i n h k) ∙ ap (λ (x : ℕ). be_from x (area (at + (i + 1)) (n - (i + 1)) s)) q

-- where the loops begin and end
pub le_start : (s : List ℕ) (at n : ℕ) → 0 ≡ le_value (area at (n - n) s)
unfolding le_value
le_start s at n =
    let q : n - n ≡ 0 = omega arith in
    sym (ap (λ (k : ℕ). le_value (area at k s)) q ∙ ap le_value (area_none at s))

pub le_done : (s : List ℕ) (at k n : ℕ) → k ≤ 0 → le_value (area (at + k) (n - k) s) ≡ le_value (area at n s)
le_done s at k n h =
    let p : at + k ≡ at = omega arith in
    let q : n - k ≡ n = omega arith in
    ap₂ (λ (i m : ℕ). le_value (area i m s)) p q

pub be_start : (s : List ℕ) (at n : ℕ) → be_from 0 (area (at + 0) (n - 0) s) ≡ be_value (area at n s)
unfolding be_value
be_start s at n =
    let p : at + 0 ≡ at = omega arith in
    let q : n - 0 ≡ n = omega arith in
    ap₂ (λ (i m : ℕ). be_from 0 (area i m s)) p q

pub be_done : (s : List ℕ) (at i n v : ℕ) → n ≤ i → be_from v (area at (n - i) s) ≡ v
unfolding be_from
be_done s at i n v h =
    let q : n - i ≡ 0 = omega arith in
    ap (λ (k : ℕ). be_from v (area at k s)) q ∙ ap (be_from v) (area_none at s)

pub le_next : (i n x : ℕ) → i < n → le (n - i) x ≡ (x % 256) ∷ le (n - (i + 1)) (x / 256)
unfolding le
le_next i n x h =
    let q : n - i ≡ suc (n - (i + 1)) = omega arith in
    ap (λ (k : ℕ). le k x) q

pub be_back : (k x : ℕ) → 0 < k → be k x ≡ be (k - 1) (x / 256) ++ ((x % 256) ∷ [])
unfolding be
be_back k x h =
    let q : k ≡ suc (k - 1) = omega arith in
    ap (λ (j : ℕ). be j x) q

pub le_over : (i n x : ℕ) → n ≤ i → le (n - i) x ≡ []
unfolding le
le_over i n x h =
    let q : n - i ≡ 0 = omega arith in
    ap (λ (k : ℕ). le k x) q

pub be_over : (k x : ℕ) → k ≤ 0 → be k x ≡ []
unfolding be
be_over k x h =
    let q : k ≡ 0 = omega arith in
    ap (λ (j : ℕ). be j x) q

pub area_over : (s : List ℕ) (at n : ℕ) → n ≤ 0 → area at n s ≡ []
area_over s at n h =
    let q : n ≡ 0 = omega arith in
    ap (λ (k : ℕ). area at k s) q ∙ area_none at s

-- a store, in front of what is left or behind it; and nothing left
pub stored_first : (d : List ℕ) (at i b : ℕ) (bs rest : List ℕ) → at + i < length d → rest ≡ b ∷ bs
    → put d (at + i) rest ≡ put (set d (at + i) b) (at + (i + 1)) bs
stored_first d at i b bs rest h e =
    ap (put d (at + i)) e ∙ put_first d (at + i) b bs h ∙ ap (λ (j : ℕ). put (set d (at + i) b) j bs) (add_assoc at i 1)

pub stored_last : (d : List ℕ) (at k b : ℕ) (bs rest : List ℕ) → at + k < length d → length bs ≡ k → rest ≡ bs ++ (b ∷ [])
    → put d at rest ≡ put (set d (at + k) b) at bs
stored_last d at k b bs rest h l e =
    ap (put d at) e
    ∙ put_last d at bs b (omega arith)
    ∙ ap (λ (j : ℕ). put (set d (at + j) b) at bs) l

pub stored_none : (d : List ℕ) (at n : ℕ) (f : ℕ → List ℕ) → put d at (f n) ≡ put d (at + 0) (f (n - 0))
stored_none d at n f =
    let p : at ≡ at + 0 = omega arith in
    let q : n ≡ n - 0 = omega arith in
    ap₂ (λ (i m : ℕ). put d i (f m)) p q

pub stored_all : (d : List ℕ) (at : ℕ) (rest : List ℕ) → rest ≡ [] → put d at rest ≡ d
stored_all d at rest e = ap (put d at) e ∙ put_none d at

-- a byte moved, down or up: those that are left to move are as they were
pub moved_none : (s : List ℕ) (from to n : ℕ) → put s to (area from n s) ≡ put s (to + 0) (area (from + 0) (n - 0) s)
moved_none s from to n =
    let p : from ≡ from + 0 = omega arith in
    stored_none s to n (λ (m : ℕ). area from m s) ∙ ap (λ (i : ℕ). put s (to + 0) (area i (n - 0) s)) p

pub moved_first : (s : List ℕ) (from to i n : ℕ) → i < n → from + n ≤ length s → to ≤ from
    → put s (to + i) (area (from + i) (n - i) s)
    ≡ put (set s (to + i) (get_or s (from + i) 0)) (to + (i + 1)) (area (from + (i + 1)) (n - (i + 1)) (set s (to + i) (get_or s (from + i) 0)))
moved_first s from to i n h k l =
    let b : ℕ = get_or s (from + i) 0 in
    stored_first s to i b (area (from + (i + 1)) (n - (i + 1)) s) (area (from + i) (n - i) s) (omega arith) (area_next s from i n h k)
    ∙ ap (put (set s (to + i) b) (to + (i + 1))) (sym (area_set_before (from + (i + 1)) (n - (i + 1)) s (to + i) b (omega arith)))

pub moved_last : (s : List ℕ) (from to k : ℕ) → 0 < k → from ≤ to → to + k ≤ length s
    → put s to (area from k s)
    ≡ put (set s (to + (k - 1)) (get_or s (from + (k - 1)) 0)) to (area from (k - 1) (set s (to + (k - 1)) (get_or s (from + (k - 1)) 0)))
moved_last s from to k h l m =
    let b : ℕ = get_or s (from + (k - 1)) 0 in
    stored_last s to (k - 1) b (area from (k - 1) s) (area from k s) (omega arith) (length_area from (k - 1) s (omega arith)) (area_back s from k h (omega arith))
    ∙ ap (put (set s (to + (k - 1)) b) to) (sym (area_set_after from (k - 1) s (to + (k - 1)) b (omega arith)))

module _ (s : List ℕ) (i : ℕ) where
  pub all_next : i < length s → get_or s i 0 ≡ 0 → all_zero (drop i s) ≡ all_zero (drop (i + 1) s)
  unfolding all_zero
  all_next h e = ap all_zero (cut s i h) ∙ simp eq-eqb

  pub all_stop : i < length s → (get_or s i 0 ≡ 0 → ⊥) → all_zero (drop i s) ≡ false
  unfolding all_zero
  all_stop h e = ap all_zero (cut s i h) ∙ simp ne_eqb

  pub all_end : length s ≤ i → all_zero (drop i s) ≡ true
  unfolding all_zero
  all_end h = ap all_zero (drop_of_length-le s h)

  -- the greatest so far is g, and then h
  pub all_greatest : (g h : ℕ) → i < length s → eqb h 0 ≡ both (eqb g 0) (eqb (get_or s i 0) 0)
      → both (eqb g 0) (all_zero (drop i s)) ≡ both (eqb h 0) (all_zero (drop (i + 1) s))
  unfolding all_zero
  all_greatest g h k e =
      ap (λ (l : List ℕ). both (eqb g 0) (all_zero l)) (cut s i k)
      ∙ both_assoc (eqb g 0) (eqb (get_or s i 0) 0) (all_zero (drop (i + 1) s))
      ∙ ap (λ (t : Bool). both t (all_zero (drop (i + 1) s))) (sym e)
