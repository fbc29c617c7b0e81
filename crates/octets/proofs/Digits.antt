-- Numbers and their bytes, over the width: each gives the other back. Assumes nothing.
use mathlib.Core.Path.{◌≡◌, refl, sym, ap, ap₂, ◌∙◌}
use mathlib.Core.List.{List, [], ◌∷◌, ◌++◌, append_assoc, append-nil}
use Prim.Native.Nat.{ℕ, zero, suc, ◌+◌, ◌*◌, ◌/◌, ◌%◌, ◌^◌, ◌<◌}
use native.Mathlib.Nat.{add-zero, zero-add}
use native.Mathlib.Omega.{arith}
use lib.ListN.{length, length-append}
use lib.Pow.{pow-add}
use Rattle.octets.specs.Bytes.{Bytes, le, le_value, be, be_from, be_value, zeros}
use Rattle.octets.proofs.Byte.{bytes_tail}

-- one byte more
pub pow_byte : (n : ℕ) → 2 ^ (8 * suc n) ≡ 256 * 2 ^ (8 * n)
pow_byte n =
    let e : 8 * suc n ≡ 8 + 8 * n = omega arith in
    ap (λ (k : ℕ). 2 ^ k) e ∙ pow-add 2 8 (8 * n)

pub length_le : (w v : ℕ) → length (le w v) ≡ w
unfolding le
length_le zero v = refl
length_le (suc w) v = ap suc (length_le w (v / 256))

pub length_be : (w v : ℕ) → length (be w v) ≡ w
unfolding be
length_be zero v = refl
length_be (suc w) v = omega (arith, length-append (be w (v / 256)) ((v % 256) ∷ []), length_be w (v / 256))

pub value_le : (w v : ℕ) → v < 2 ^ (8 * w) → le_value (le w v) ≡ v
unfolding le le_value
value_le zero v h = omega arith
value_le (suc w) v h =
    let q : v / 256 < 2 ^ (8 * w) = omega (arith, pow_byte w) in
    omega (arith, value_le w (v / 256) q)

pub le_value_lem : (l : List ℕ) → Bytes l → le (length l) (le_value l) ≡ l
unfolding le le_value
le_value_lem [] h = refl
le_value_lem (b ∷ l) h =
    let v : ℕ = le_value l in
    let q : (b + 256 * v) % 256 ≡ b = omega (arith, h.byte 0) in
    let r : (b + 256 * v) / 256 ≡ v = omega (arith, h.byte 0) in
    ap₂ (λ (x : ℕ) (y : List ℕ). x ∷ y) q (ap (le (length l)) r ∙ le_value_lem l (bytes_tail h))

pub value_le_lt : (l : List ℕ) → Bytes l → le_value l < 2 ^ (8 * length l)
unfolding le_value
value_le_lt [] h = omega arith
value_le_lt (b ∷ l) h = omega (arith, value_le_lt l (bytes_tail h), h.byte 0, pow_byte (length l))

be_from_append : (n : ℕ) (xs ys : List ℕ) → be_from n (xs ++ ys) ≡ be_from (be_from n xs) ys
unfolding be_from
be_from_append n [] ys = refl
be_from_append n (x ∷ xs) ys = be_from_append (256 * n + x) xs ys

pub value_be : (w v : ℕ) → v < 2 ^ (8 * w) → be_value (be w v) ≡ v
unfolding be be_from be_value
value_be zero v h = omega arith
value_be (suc w) v h =
    let q : v / 256 < 2 ^ (8 * w) = omega (arith, pow_byte w) in
    be_from_append 0 (be w (v / 256)) ((v % 256) ∷ []) ∙ omega (arith, value_be w (v / 256) q)

be_from_lem : (k n : ℕ) (l : List ℕ) → Bytes l → be (k + length l) (be_from n l) ≡ be k n ++ l
unfolding be be_from
be_from_lem k n [] h = rw (add-zero, append-nil)
be_from_lem k n (b ∷ l) h =
    let j : k + suc (length l) ≡ suc k + length l = omega arith in
    let q : (256 * n + b) / 256 ≡ n = omega (arith, h.byte 0) in
    let r : (256 * n + b) % 256 ≡ b = omega (arith, h.byte 0) in
    ap (λ (i : ℕ). be i (be_from (256 * n + b) l)) j
    ∙ be_from_lem (suc k) (256 * n + b) l (bytes_tail h)
    ∙ ap₂ (λ (x y : ℕ). (be k x ++ (y ∷ [])) ++ l) q r
    ∙ append_assoc (be k n) (b ∷ []) l

pub be_value_lem : (l : List ℕ) → Bytes l → be (length l) (be_value l) ≡ l
unfolding be be_value
be_value_lem l h = ap (λ (k : ℕ). be k (be_from 0 l)) (sym (zero-add (length l))) ∙ be_from_lem 0 0 l h

be_from_lt : (k n : ℕ) (l : List ℕ) → Bytes l → n < 2 ^ (8 * k) → be_from n l < 2 ^ (8 * (k + length l))
unfolding be_from
be_from_lt k n [] h p = rw add-zero p
be_from_lt k n (b ∷ l) h p =
    let j : suc k + length l ≡ k + suc (length l) = omega arith in
    let q : 256 * n + b < 2 ^ (8 * suc k) = omega (arith, h.byte 0, pow_byte k) in
    rw j at (be_from_lt (suc k) (256 * n + b) l (bytes_tail h) q)

pub value_be_lt : (l : List ℕ) → Bytes l → be_value l < 2 ^ (8 * length l)
unfolding be_value
value_be_lt l h =
    let p : 0 < 2 ^ (8 * 0) = omega arith in
    rw zero-add at (be_from_lt 0 0 l h p)

-- zeros stand for 0
pub value_le_zeros : (n : ℕ) → le_value (zeros n) ≡ 0
unfolding le_value
value_le_zeros zero = refl
value_le_zeros (suc n) = omega (arith, value_le_zeros n)

pub value_be_zeros : (n : ℕ) → be_value (zeros n) ≡ 0
unfolding be_value be_from
value_be_zeros zero = refl
value_be_zeros (suc n) = value_be_zeros n
