-- What an area reads: its length, areas joined, of appends, of areas and of puts. Assumes nothing.
use mathlib.Core.Path.{◌≡◌, refl, sym, ap, ap₂, ◌∙◌}
use mathlib.Core.List.{List, [], ◌∷◌, ◌++◌}
use Prim.Native.Nat.{ℕ, ◌+◌, ◌-◌, ◌≤◌, ◌<◌}
use native.Mathlib.Nat.{add-zero, add_assoc}
use native.Mathlib.Numerals.{add-one}
use native.Mathlib.Omega.{arith}
use lib.ListN.{length, length-replicate, replicate-append-replicate, take, drop, get_or, set, length-take, length-drop, take-append-drop}
use lib.Seq.{take_at, drop_at, take-append-le, drop-append-le, drop-append-add, take_all, take-add, take-take, drop-drop, get_or-take, get_or-drop, drop-cons, take-suc, take-length, drop-set-lt, take-set-le, length-take-le}
use Rattle.octets.specs.Bytes.{zeros}
use Rattle.octets.specs.Place.{area, put}
use Rattle.octets.proofs.Put.{drop_take, put_as, length_put, take_put, drop_put, take_put_in}

-- a part that is lent, `&s[at..at + n]`
pub part_area : (at n : ℕ) (s : List ℕ) → take n (drop at s) ≡ area at n s
unfolding area
part_area at n s = refl

-- the same with its length as written there; and one that is lent to its end, `&s[at..]`
pub part_is : (at n : ℕ) (s : List ℕ) → take (at + n - at) (drop at s) ≡ area at n s
part_is at n s =
    let e : at + n - at ≡ n = omega arith in
    ap (λ (k : ℕ). take k (drop at s)) e ∙ part_area at n s

pub part_rest : (s : List ℕ) (at : ℕ) → take (length s - at) (drop at s) ≡ drop at s
part_rest s at = take_all (length s - at) (drop at s) (omega (arith, length-drop at s))

pub area_drop : (at i n : ℕ) (s : List ℕ) → area i n (drop at s) ≡ area (at + i) n s
unfolding area
area_drop at i n s = ap (take n) (drop-drop i at s)

-- the first byte of what is left, with the code's + 1
pub cut : (s : List ℕ) (i : ℕ) → i < length s → drop i s ≡ get_or s i 0 ∷ drop (i + 1) s
cut s i h = rw (add-one i, drop-cons s i 0 h)

-- an area is cut out in either order
pub area_cut : (at n : ℕ) (s : List ℕ) → area at n s ≡ drop at (take (at + n) s)
unfolding area
area_cut at n s = sym (drop_take at n s)

pub area_front : (n : ℕ) (s : List ℕ) → area 0 n s ≡ take n s
unfolding area
area_front n s = refl

pub area_all : (s : List ℕ) → area 0 (length s) s ≡ s
unfolding area
area_all s = take-length s

pub area_none : (at : ℕ) (s : List ℕ) → area at 0 s ≡ []
unfolding area
area_none at s = refl

pub area_rest : (at n : ℕ) (s : List ℕ) → length s ≤ at + n → area at n s ≡ drop at s
unfolding area
area_rest at n s h = take_all n (drop at s) (omega (arith, length-drop at s))

pub length_area : (at n : ℕ) (s : List ℕ) → at + n ≤ length s → length (area at n s) ≡ n
unfolding area
length_area at n s h = simp (length-take, length-drop) (omega arith)

pub get_d_area : (at n : ℕ) (s : List ℕ) (i : ℕ) → i < n → get_or (area at n s) i 0 ≡ get_or s (at + i) 0
unfolding area
get_d_area at n s i h = rw (get_or-take, get_or-drop)

pub area_add : (at m n : ℕ) (s : List ℕ) → area at (m + n) s ≡ area at m s ++ area (at + m) n s
unfolding area
area_add at m n s = rw (take-add, drop-drop)

-- its first byte and the others; its last and the others
pub area_first : (at n : ℕ) (s : List ℕ) → at < length s → area at (n + 1) s ≡ get_or s at 0 ∷ area (at + 1) n s
unfolding area
area_first at n s h = rw (add-one n, add-one at, drop-cons s at 0 h)

pub area_last : (at n : ℕ) (s : List ℕ) → at + n < length s → area at (n + 1) s ≡ area at n s ++ (get_or s (at + n) 0 ∷ [])
unfolding area
area_last at n s h =
    ap (λ (k : ℕ). take k (drop at s)) (add-one n)
    ∙ take-suc (drop at s) n 0 (omega (arith, length-drop at s))
    ∙ ap (λ (b : ℕ). take n (drop at s) ++ (b ∷ [])) (get_or-drop at s n 0)

pub area_area : (at n : ℕ) (s : List ℕ) (i m : ℕ) → i + m ≤ n → area i m (area at n s) ≡ area (at + i) m s
unfolding area
area_area at n s i m h =
    let q : n ≡ i + (n - i) = omega arith in
    ap (λ (k : ℕ). take m (drop i (take k (drop at s)))) q
    ∙ ap (take m) (drop_take i (n - i) (drop at s))
    ∙ take-take m (n - i) (drop i (drop at s)) (omega arith)
    ∙ ap (take m) (drop-drop i at s)

pub area_append_left : (xs ys : List ℕ) (at n : ℕ) → at + n ≤ length xs → area at n (xs ++ ys) ≡ area at n xs
unfolding area
area_append_left xs ys at n h =
    ap (take n) (drop-append-le at xs ys (omega arith)) ∙ take-append-le n (drop at xs) ys (omega (arith, length-drop at xs))

pub area_append_right : (xs ys : List ℕ) (at n : ℕ) → area (length xs + at) n (xs ++ ys) ≡ area at n ys
unfolding area
area_append_right xs ys at n = ap (take n) (drop-append-add xs ys at)

pub area_left : (xs ys : List ℕ) (n : ℕ) → length xs ≡ n → area 0 n (xs ++ ys) ≡ xs
unfolding area
area_left xs ys n e = take_at xs ys n e

pub area_right : (xs ys : List ℕ) (at n : ℕ) → length xs ≡ at → length ys ≡ n → area at n (xs ++ ys) ≡ ys
unfolding area
area_right xs ys at n p q = ap (take n) (drop_at xs ys at p) ∙ take_all n ys (omega arith)

pub area_middle : (xs ys zs : List ℕ) (at n : ℕ) → length xs ≡ at → length ys ≡ n → area at n (xs ++ (ys ++ zs)) ≡ ys
unfolding area
area_middle xs ys zs at n p q = ap (take n) (drop_at xs (ys ++ zs) at p) ∙ take_at ys zs n q

pub area_zeros : (at n m : ℕ) → at + n ≤ m → area at n (zeros m) ≡ zeros n
area_zeros at n m h =
    let r : ℕ = m - (at + n) in
    let e : m ≡ at + (n + r) = omega arith in
    ap (λ (k : ℕ). area at n (zeros k)) e
    ∙ ap (area at n) (sym (replicate-append-replicate at (n + r) 0) ∙ ap (λ (l : List ℕ). zeros at ++ l) (sym (replicate-append-replicate n r 0)))
    ∙ area_middle (zeros at) (zeros n) (zeros r) at n (length-replicate {A = ℕ} at 0) (length-replicate {A = ℕ} n 0)

module _ (s : List ℕ) (at : ℕ) (bs : List ℕ) (h : at ≤ length s) where
  -- an area before the place, and one after it, is kept
  pub area_before : (i n : ℕ) → i + n ≤ at → area i n (put s at bs) ≡ area i n s
  area_before i n k = area_cut i n (put s at bs) ∙ ap (drop i) (take_put s at bs (i + n) h k) ∙ sym (area_cut i n s)

  pub area_after : (i n : ℕ) → at + length bs ≤ i → area i n (put s at bs) ≡ area i n s
  unfolding area
  area_after i n k = ap (take n) (drop_put s at bs i h k)

  -- what was put is read there, and any part of it
  pub area_put_part : (i n : ℕ) → i + n ≤ length bs → area (at + i) n (put s at bs) ≡ area i n bs
  unfolding area put
  area_put_part i n k =
      let z : List ℕ = drop (at + length bs) s in
      ap (take n) (sym (drop-drop i at (put s at bs)) ∙ ap (drop i) (drop_at (take at s) (bs ++ z) at (length-take-le at s h)) ∙ drop-append-le i bs z (omega arith))
      ∙ take-append-le n (drop i bs) z (omega (arith, length-drop i bs))

  pub area_put : area at (length bs) (put s at bs) ≡ bs
  area_put =
      ap (λ (i : ℕ). area i (length bs) (put s at bs)) (sym (add-zero at)) ∙ area_put_part 0 (length bs) (omega arith) ∙ area_all bs

  pub area_put_at : (n : ℕ) → length bs ≡ n → area at n (put s at bs) ≡ bs
  area_put_at n e = ap (λ (k : ℕ). area at k (put s at bs)) (sym e) ∙ area_put

-- a list is what stands before an area, the area, and what stands after
pub area_split : (at n : ℕ) (s : List ℕ) → take at s ++ (area at n s ++ drop (at + n) s) ≡ s
unfolding area
area_split at n s = rw (← drop-drop n at s, take-append-drop n (drop at s), take-append-drop at s)

pub put_area_lem : (s : List ℕ) (at n : ℕ) → at + n ≤ length s → put s at (area at n s) ≡ s
put_area_lem s at n h =
    put_as s at (area at n s) (take at s) (drop (at + n) s) refl (ap (λ (k : ℕ). drop (at + k) s) (length_area at n s h)) ∙ area_split at n s

-- a put within an area is one of the whole list
pub drop_put_in : (s : List ℕ) (a at : ℕ) (bs : List ℕ) → a + at ≤ length s → drop a (put s (a + at) bs) ≡ put (drop a s) at bs
unfolding put
drop_put_in s a at bs h =
    drop-append-le a (take (a + at) s) _ (omega (arith, length-take-le (a + at) s h))
    ∙ ap₂ (λ (x y : List ℕ). x ++ (bs ++ y)) (drop_take a at s) (ap (λ (k : ℕ). drop k s) (add_assoc a at (length bs)) ∙ sym (drop-drop (at + length bs) a s))

module _ (s : List ℕ) (a n at : ℕ) (bs : List ℕ) (h : at + length bs ≤ n) (k : a + n ≤ length s) where
  pub area_put_in : area a n (put s (a + at) bs) ≡ put (area a n s) at bs
  unfolding area
  area_put_in =
      ap (take n) (drop_put_in s a at bs (omega arith)) ∙ take_put_in (drop a s) at bs n h (omega (arith, length-drop a s))

  pub put_in : put s a (put (area a n s) at bs) ≡ put s (a + at) bs
  put_in =
      let t : List ℕ = put s (a + at) bs in
      let l : length (area a n t) ≡ n = length_area a n t (omega (arith, length_put s (a + at) bs (omega arith))) in
      ap (put s a) (sym area_put_in)
      ∙ put_as s a (area a n t) (take a t) (drop (a + n) t)
      (sym (take_put s (a + at) bs a (omega arith) (omega arith)))
      (ap (λ (j : ℕ). drop (a + j) s) l ∙ sym (drop_put s (a + at) bs (a + n) (omega arith) (omega arith)))
      ∙ area_split a n t

-- a store outside an area
pub area_set_after : (at n : ℕ) (s : List ℕ) (i b : ℕ) → at + n ≤ i → area at n (set s i b) ≡ area at n s
area_set_after at n s i b h = area_cut at n (set s i b) ∙ ap (drop at) (take-set-le (at + n) s i b h) ∙ sym (area_cut at n s)

pub area_set_before : (at n : ℕ) (s : List ℕ) (i b : ℕ) → i < at → area at n (set s i b) ≡ area at n s
unfolding area
area_set_before at n s i b h = ap (take n) (drop-set-lt at s i b h)
