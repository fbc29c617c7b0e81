-- Laws of put: its length, what stands before and after, and puts joined, overlaid and exchanged. Assumes nothing.
use mathlib.Core.Path.{◌≡◌, refl, sym, ap, ap₂, ◌∙◌}
use mathlib.Core.List.{List, [], ◌∷◌, ◌++◌, append_assoc, append-nil}
use Prim.Native.Nat.{ℕ, zero, suc, ◌+◌, ◌-◌, ◌≤◌, ◌<◌}
use native.Mathlib.Nat.{add_assoc, add-zero, zero-add, suc-add}
use native.Mathlib.Numerals.{add-one}
use native.Mathlib.Omega.{arith}
use lib.ListN.{length, take, drop, set, length-set, length-append, length-take, length-drop, take-append-drop}
use lib.Seq.{take_at, drop_at, take-append-le, drop-append-le, drop-append-add, take-append-add, take-take, drop-drop, set_split, length-take-le, take-nil, drop-length}
use Rattle.octets.specs.Bytes.{zeros}
use Rattle.octets.specs.Place.{put}

pub drop_take : (m n : ℕ) (l : List ℕ) → drop m (take (m + n) l) ≡ take n (drop m l)
drop_take zero n l = rw zero-add
drop_take (suc m) n [] = rw (suc-add, take-nil)
drop_take (suc m) n (x ∷ l) = rw suc-add (drop_take m n l)

-- put, opened; and at what its two ends are
pub put_is : (s : List ℕ) (at : ℕ) (bs : List ℕ) → put s at bs ≡ take at s ++ (bs ++ drop (at + length bs) s)
unfolding put
put_is s at bs = refl

pub put_as : (s : List ℕ) (at : ℕ) (bs a z : List ℕ) → take at s ≡ a → drop (at + length bs) s ≡ z → put s at bs ≡ a ++ (bs ++ z)
put_as s at bs a z p q = put_is s at bs ∙ ap₂ (λ (x y : List ℕ). x ++ (bs ++ y)) p q

pub put_none : (s : List ℕ) (at : ℕ) → put s at [] ≡ s
unfolding put
put_none s at = rw (add-zero, take-append-drop)

pub put_all : (s bs : List ℕ) → length bs ≡ length s → put s 0 bs ≡ bs
unfolding put
put_all s bs e = rw (zero-add, e, drop-length, append-nil)

module _ (s : List ℕ) (at : ℕ) (bs : List ℕ) where
  pub length_put : at + length bs ≤ length s → length (put s at bs) ≡ length s
  unfolding put
  length_put h = simp (length-append, length-take, length-drop) (omega arith)

  -- a part that was lent, as it comes back
  pub part_put : (k : ℕ) → length bs ≡ k → take at s ++ (bs ++ drop k (drop at s)) ≡ put s at bs
  unfolding put
  part_put k e = rw (← e, drop-drop)

  pub take_put : (n : ℕ) → at ≤ length s → n ≤ at → take n (put s at bs) ≡ take n s
  unfolding put
  take_put n h k = take-append-le n (take at s) _ (omega (arith, length-take-le at s h)) ∙ take-take n at s k

  front : at ≤ length s → length (take at s ++ bs) ≡ at + length bs
  front h = simp (length-append, length-take) (omega arith)

  pub take_put_end : at ≤ length s → take (at + length bs) (put s at bs) ≡ take at s ++ bs
  unfolding put
  take_put_end h =
      ap (take (at + length bs)) (sym (append_assoc (take at s) bs _)) ∙ take_at (take at s ++ bs) _ (at + length bs) (front h)

  pub drop_put_end : at ≤ length s → drop (at + length bs) (put s at bs) ≡ drop (at + length bs) s
  unfolding put
  drop_put_end h =
      ap (drop (at + length bs)) (sym (append_assoc (take at s) bs _)) ∙ drop_at (take at s ++ bs) _ (at + length bs) (front h)

  pub drop_put : (n : ℕ) → at ≤ length s → at + length bs ≤ n → drop n (put s at bs) ≡ drop n s
  drop_put n h k =
      let m : ℕ = n - (at + length bs) in
      let q : n ≡ at + length bs + m = omega arith in
      ap (λ (j : ℕ). drop j (put s at bs)) q
      ∙ sym (drop-drop m (at + length bs) (put s at bs))
      ∙ ap (drop m) (drop_put_end h)
      ∙ drop-drop m (at + length bs) s
      ∙ ap (λ (j : ℕ). drop j s) (sym q)

  -- within what is kept: before the cut, and after it
  pub take_put_in : (n : ℕ) → at + length bs ≤ n → n ≤ length s → take n (put s at bs) ≡ put (take n s) at bs
  unfolding put
  take_put_in n h k =
      let e : ℕ = at + length bs in
      let m : ℕ = n - e in
      let q : n ≡ e + m = omega arith in
      let f : length (take at s ++ bs) ≡ e = front (omega arith) in
      let w : drop e (take n s) ≡ take m (drop e s) = ap (λ (j : ℕ). drop e (take j s)) q ∙ drop_take e m s in
      ap₂ (λ (j : ℕ) (l : List ℕ). take j l) (q ∙ ap (λ (j : ℕ). j + m) (sym f)) (sym (append_assoc (take at s) bs (drop e s)))
      ∙ take-append-add (take at s ++ bs) (drop e s) m
      ∙ append_assoc (take at s) bs (take m (drop e s))
      ∙ ap₂ (λ (a r : List ℕ). a ++ (bs ++ r)) (sym (take-take at n s (omega arith))) (sym w)

  pub put_append : (xs : List ℕ) → at ≤ length s → put (put s at bs) (at + length bs) xs ≡ put s at (bs ++ xs)
  unfolding put
  put_append xs h =
      let e : ℕ = at + length bs + length xs in
      put_as (put s at bs) (at + length bs) xs (take at s ++ bs) (drop e s) (take_put_end h) (drop_put e h (omega arith))
      ∙ simp (append_assoc, length-append, add_assoc)

-- two places apart: the order does not matter
pub put_swap : (s : List ℕ) (at : ℕ) (xs : List ℕ) (to : ℕ) (ys : List ℕ) → at + length xs ≤ to → to ≤ length s → put (put s at xs) to ys ≡ put (put s to ys) at xs
unfolding put
put_swap s at xs to ys h k =
    let d : List ℕ = drop (at + length xs) (take to s) in
    let z : List ℕ = drop (to + length ys) s in
    let p : take to (put s at xs) ≡ take at s ++ (xs ++ d) =
    take_put_in s at xs to h k ∙ put_as (take to s) at xs (take at s) d (take-take at to s (omega arith)) refl in
    let q : drop (at + length xs) (put s to ys) ≡ d ++ (ys ++ z) =
    drop-append-le (at + length xs) (take to s) (ys ++ z) (omega (arith, length-take-le to s k)) in
    put_as (put s at xs) to ys (take at s ++ (xs ++ d)) z p (drop_put s at xs (to + length ys) (omega arith) (omega arith))
    ∙ (append_assoc (take at s) (xs ++ d) (ys ++ z) ∙ ap (λ (l : List ℕ). take at s ++ l) (append_assoc xs d (ys ++ z)))
    ∙ sym (put_as (put s to ys) at xs (take at s) (d ++ (ys ++ z)) (take_put s to ys at k (omega arith)) q)

-- one byte stored, and the loops that store one more in front of, or behind, what is left
pub set_put : (s : List ℕ) (i b : ℕ) → i < length s → set s i b ≡ put s i (b ∷ [])
unfolding put
set_put s i b h = set_split s i b h ∙ rw add-one

pub put_first : (s : List ℕ) (at b : ℕ) (bs : List ℕ) → at < length s → put s at (b ∷ bs) ≡ put (set s at b) (at + 1) bs
put_first s at b bs h =
    sym (put_append s at (b ∷ []) bs (omega arith)) ∙ ap (λ (l : List ℕ). put l (at + 1) bs) (sym (set_put s at b h))

pub put_two : (s : List ℕ) (at a b : ℕ) → at + 2 ≤ length s → set (set s at a) (at + 1) b ≡ put s at (a ∷ (b ∷ []))
put_two s at a b h = set_put (set s at a) (at + 1) b (omega (arith, length-set s at a)) ∙ sym (put_first s at a (b ∷ []) (omega arith))

pub put_last : (s : List ℕ) (at : ℕ) (bs : List ℕ) (b : ℕ) → at + length bs < length s
    → put s at (bs ++ (b ∷ [])) ≡ put (set s (at + length bs) b) at bs
put_last s at bs b h =
    sym (put_append s at bs (b ∷ []) (omega arith))
    ∙ put_swap s at bs (at + length bs) (b ∷ []) (omega arith) (omega arith)
    ∙ ap (λ (l : List ℕ). put l at bs) (sym (set_put s (at + length bs) b h))

pub drop_zeros : (m n : ℕ) → drop m (zeros n) ≡ zeros (n - m)
drop_zeros zero n = let e : n ≡ n - 0 = omega arith in ap zeros e
drop_zeros (suc m) zero = let e : 0 ≡ 0 - suc m = omega arith in ap zeros e
drop_zeros (suc m) (suc n) = let e : n - m ≡ suc n - suc m = omega arith in drop_zeros m n ∙ ap zeros e

-- after what stands before
pub put_at : (x t e : List ℕ) (at : ℕ) → length x ≡ at → put (x ++ t) at e ≡ x ++ (e ++ drop (length e) t)
unfolding put
put_at x t e at h =
    let q : at + length e ≡ length x + length e = omega arith in
    ap₂ (λ (a z : List ℕ). a ++ (e ++ z)) (take_at x t at h) (ap (λ (k : ℕ). drop k (x ++ t)) q ∙ drop-append-add x t (length e))

-- bytes in the middle give way to as many others
pub put_middle : (a b c d : List ℕ) (at : ℕ) → length a ≡ at → length d ≡ length b → put (a ++ (b ++ c)) at d ≡ a ++ (d ++ c)
put_middle a b c d at h k = put_at a (b ++ c) d at h ∙ ap (λ (z : List ℕ). a ++ (d ++ z)) (drop_at b c (length d) (sym k))
