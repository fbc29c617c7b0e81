-- Two's complement, once over half the range: reading and writing a form of that range are inverse. Assumes nothing.
use mathlib.Core.Path.{◌≡◌, refl, sym, ap, ◌∙◌}
use mathlib.Core.Bool.{true, false}
use Prim.Native.Nat.{ℕ, ◌+◌, ◌-◌, ◌*◌, ◌^◌, ◌≤◌, ◌<◌}
use native.Mathlib.Omega.{arith}
use lib.Pow.{pow-add, pow_mono, pow_pos}
use borrow.Author.Tests.{lt-ltb, le-ltb, le-leb, lt-leb, leb-true}
use Rattle.listpack.specs.Width.{fits, narrow, extend, half_of}
use Rattle.octets.proofs.Laws.{pick_lt}

module _ (half p : ℕ) where
  pub fits_low : p < half → fits half p ≡ true
  unfolding fits
  fits_low h = simp lt-ltb

  pub fits_high : 2 ^ 64 - half ≤ p → fits half p ≡ true
  unfolding fits
  fits_high h = pick_lt (λ t. t ≡ true) p half _ _ (λ k. refl) (λ k. le-leb (2 ^ 64 - half) p h)

  pub fits_not : half ≤ p → p < 2 ^ 64 - half → fits half p ≡ false
  unfolding fits
  fits_not h k = simp (le-ltb, lt-leb)

  pub narrow_low : p < half → narrow half p ≡ p
  unfolding narrow
  narrow_low h = simp lt-ltb

  pub narrow_high : half ≤ p → narrow half p ≡ p - (2 ^ 64 - 2 * half)
  unfolding narrow
  narrow_high h = simp le-ltb

  pub extend_low : p < half → extend half p ≡ p
  unfolding extend
  extend_low h = simp lt-ltb

  pub extend_high : half ≤ p → extend half p ≡ p + (2 ^ 64 - 2 * half)
  unfolding extend
  extend_high h = simp le-ltb

module _ (half : ℕ) (small : half ≤ 2 ^ 63) where
  pub extend_lt : (v : ℕ) → v < 2 * half → extend half v < 2 ^ 64
  unfolding extend
  extend_lt v h = pick_lt (λ (x : ℕ). x < 2 ^ 64) v half _ _ (λ k. omega arith) (λ k. omega arith)

  pub narrow_extend : (v : ℕ) → v < 2 * half → narrow half (extend half v) ≡ v
  unfolding extend narrow
  narrow_extend v h =
      pick_lt (λ (x : ℕ). narrow half x ≡ v) v half _ _ (λ k. simp lt-ltb)
      (λ k. simp (le-ltb (v + (2 ^ 64 - 2 * half)) half (omega arith)) (omega arith))

  -- what fits is in one of the two ranges
  pub fits_by : (P : Type 0) (p : ℕ) → fits half p ≡ true → (p < half → P) → (half ≤ p → 2 ^ 64 - half ≤ p → P) → P
  unfolding fits
  fits_by P p =
      pick_lt (λ t. t ≡ true → (p < half → P) → (half ≤ p → 2 ^ 64 - half ≤ p → P) → P) p half _ _ (λ k e f g. f k)
      (λ k e f g. g k (leb-true (2 ^ 64 - half) p e))

  module _ (p : ℕ) (below : p < 2 ^ 64) (fit : fits half p ≡ true) where
    pub narrow_lt : narrow half p < 2 * half
    unfolding narrow
    narrow_lt =
        fits_by (narrow half p < 2 * half) p fit (λ k. simp (lt-ltb p half k) (omega arith))
        (λ k l. simp (le-ltb p half k) (omega arith))

    pub extend_narrow : extend half (narrow half p) ≡ p
    unfolding narrow extend
    extend_narrow =
        fits_by (extend half (narrow half p) ≡ p) p fit (λ k. simp (lt-ltb p half k))
        (λ k l. simp (le-ltb p half k, le-ltb (p - (2 ^ 64 - 2 * half)) half (omega arith)) (omega arith))

-- 64 bits hold every pattern
pub fits_all : (p : ℕ) → fits (2 ^ 63) p ≡ true
unfolding fits
fits_all p = pick_lt (λ t. t ≡ true) p (2 ^ 63) _ _ (λ k. refl) (λ k. le-leb (2 ^ 63) p k)

-- half the range of w bytes
module _ (w : ℕ) (one : 1 ≤ w) (eight : w ≤ 8) where
  pub half_twice : 2 * half_of w ≡ 2 ^ (8 * w)
  half_twice =
      let e : 8 * w ≡ 1 + (8 * w - 1) = omega arith in
      sym (ap (λ (k : ℕ). 2 ^ k) e ∙ pow-add 2 1 (8 * w - 1))

  pub half_small : half_of w ≤ 2 ^ 63
  half_small =
      let k : 8 * w - 1 ≤ 63 = omega arith in
      pow_mono k

  pub half_one : 1 ≤ half_of w
  half_one = pow_pos (8 * w - 1)
