-- What a back length, a head and a body are, by the test that picks them, and their sizes. Assumes nothing.
use mathlib.Core.Path.{◌≡◌, ap}
use mathlib.Core.Bool.{true, false}
use mathlib.Core.List.{[], ◌∷◌}
use Prim.Native.Nat.{ℕ, ◌+◌, ◌/◌, ◌%◌, ◌≤◌, ◌<◌}
use native.Mathlib.Omega.{arith}
use lib.ListN.{length}
use borrow.Author.Tests.{lt-ltb, le-ltb}
use Rattle.octets.proofs.Laws.{length_le}
use Rattle.listpack.specs.Width.{fits, narrow, half_of}
use Rattle.listpack.specs.Element.{IsWide, integer_body, tiny_body, short_body, wide_body, text_head, back_length}

module _ (n : ℕ) where
  pub back_is_1 : n < 128 → back_length n ≡ n ∷ []
  unfolding back_length
  back_is_1 h = simp lt-ltb

  pub back_is_2 : 128 ≤ n → back_length n ≡ (n / 128) ∷ (128 + n % 128) ∷ []
  unfolding back_length
  back_is_2 h = simp le-ltb

  pub head_is_1 : n < 64 → text_head n ≡ (128 + n) ∷ []
  unfolding text_head
  head_is_1 h = simp lt-ltb

  pub head_is_2 : 64 ≤ n → text_head n ≡ (224 + n / 256) ∷ (n % 256) ∷ []
  unfolding text_head
  head_is_2 h = simp le-ltb

  pub size_back_1 : n < 128 → length (back_length n) ≡ 1
  size_back_1 h = ap length (back_is_1 h)

  pub size_back_2 : 128 ≤ n → length (back_length n) ≡ 2
  size_back_2 h = ap length (back_is_2 h)

  pub size_head_1 : n < 64 → length (text_head n) ≡ 1
  size_head_1 h = ap length (head_is_1 h)

  pub size_head_2 : 64 ≤ n → length (text_head n) ≡ 2
  size_head_2 h = ap length (head_is_2 h)

-- the first form that fits
module _ (p : ℕ) where
  pub body_is_1 : p < 128 → integer_body p ≡ tiny_body p
  unfolding integer_body
  body_is_1 h = simp lt-ltb

  pub size_1 : p < 128 → length (integer_body p) ≡ 1
  size_1 h = ap length (body_is_1 h)

  module _ (low : 128 ≤ p) where
    pub body_is_2 : fits 4096 p ≡ true → integer_body p ≡ short_body p
    unfolding integer_body
    body_is_2 a = simp (le-ltb, a)

    pub size_2 : fits 4096 p ≡ true → length (integer_body p) ≡ 2
    size_2 a = ap length (body_is_2 a)

    module _ (a : fits 4096 p ≡ false) where
      pub body_16 : fits (half_of 2) p ≡ true → integer_body p ≡ wide_body 241 2 p
      unfolding integer_body
      body_16 b = simp (le-ltb, a, b)

      module _ (b : fits (half_of 2) p ≡ false) where
        pub body_24 : fits (half_of 3) p ≡ true → integer_body p ≡ wide_body 242 3 p
        unfolding integer_body
        body_24 c = simp (le-ltb, a, b, c)

        pub body_32 : fits (half_of 3) p ≡ false → fits (half_of 4) p ≡ true → integer_body p ≡ wide_body 243 4 p
        unfolding integer_body
        body_32 c d = simp (le-ltb, a, b, c, d)

        pub body_64 : fits (half_of 3) p ≡ false → fits (half_of 4) p ≡ false → integer_body p ≡ wide_body 244 8 p
        unfolding integer_body
        body_64 c d = simp (le-ltb, a, b, c, d)

-- the size of a form that has w bytes after its first
pub size_wide : (p tag w half : ℕ) → IsWide p tag w half → length (integer_body p) ≡ 1 + w
size_wide p tag w half k = omega (arith, ap length k.body, length_le w (narrow (half_of w) p))
