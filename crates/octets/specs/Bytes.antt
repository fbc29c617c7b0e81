-- Bytes and the numbers that they stand for, little-endian and big-endian, over the width. Assumes nothing.
use Rattle.std.specs.Prelude.{List, [], ◌∷◌, ◌++◌, ℕ, zero, suc, ◌+◌, ◌*◌, ◌/◌, ◌%◌, ◌<◌, get_or, replicate}

-- every element is a byte
pub record Bytes (l : List ℕ) : Type 0 where
  pub byte : (i : ℕ) → get_or l i 0 < 256

-- the low w bytes of v, the lowest first
unfoldable pub le : ℕ → ℕ → List ℕ
le zero v = []
le (suc w) v = (v % 256) ∷ le w (v / 256)

unfoldable pub le_value : List ℕ → ℕ
le_value [] = 0
le_value (b ∷ bs) = b + 256 * le_value bs

-- the low w bytes of v, the lowest last
unfoldable pub be : ℕ → ℕ → List ℕ
be zero v = []
be (suc w) v = be w (v / 256) ++ ((v % 256) ∷ [])

-- the number whose higher digits are already read, as n
unfoldable pub be_from : ℕ → List ℕ → ℕ
be_from n [] = n
be_from n (b ∷ bs) = be_from (256 * n + b) bs

unfoldable pub be_value : List ℕ → ℕ
be_value bs = be_from 0 bs

abbrev pub zeros : ℕ → List ℕ
zeros n = replicate n 0
