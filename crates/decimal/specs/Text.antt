-- The decimal text of an integer, given as its 64-bit pattern. Assumes nothing.
use Rattle.std.specs.Prelude.{List, [], ◌∷◌, ◌++◌, ℕ, zero, suc, ◌+◌, ◌-◌, ◌/◌, ◌%◌, ◌^◌, ltb}
use Rattle.octets.specs.Pick.{pick}

-- the digits of n, of which there are at most `most`
unfoldable pub digits_of : ℕ → ℕ → List ℕ
digits_of zero n = []
digits_of (suc most) n = pick (ltb n 10) ((48 + n) ∷ []) (digits_of most (n / 10) ++ ((48 + n % 10) ∷ []))

-- a number below 2^64 has at most 20 digits
unfoldable pub natural_text : ℕ → List ℕ
natural_text n = digits_of 20 n

-- a pattern from 2^63 on stands for a negative number
unfoldable pub text_of : ℕ → List ℕ
text_of p = pick (ltb p (2 ^ 63)) (natural_text p) (45 ∷ natural_text (2 ^ 64 - p))
