-- Which strings are integers (01, Listpack elements): 0, or an optional minus and a digit 1-9 followed by digits, in signed
-- 64-bit range. An integer is kept as its 64-bit two's complement pattern, a number below 2^64. Assumes nothing.
use Rattle.std.specs.Prelude.{Bool, List, [], ◌∷◌, ℕ, ◌+◌, ◌-◌, ◌*◌, ◌^◌, leb, eqb, Option, Some, None}
use Rattle.octets.specs.Pick.{pick, both}
use Rattle.octets.specs.Compare.{same}
use Rattle.octets.specs.Maybe.{◌>>=◌, ◌>>◌, need}

-- from '0' to '9'
abbrev pub is_digit : ℕ → Bool
is_digit b = both (leb 48 b) (leb b 57)

-- digits that follow the digits of n
unfoldable pub digits_after : ℕ → List ℕ → Option ℕ
digits_after n [] = Some n
digits_after n (b ∷ bs) = do
  need (is_digit b)
  digits_after (10 * n + (b - 48)) bs

-- a digit 1-9 followed by digits
unfoldable pub positive_of : List ℕ → Option ℕ
positive_of [] = None
positive_of (b ∷ bs) = do
  need (both (leb 49 b) (leb b 57))
  digits_after (b - 48) bs

-- a number that is in range, at most `most`
abbrev pub up_to : ℕ → Option ℕ → Option ℕ
up_to most o = do
  n ← o
  need (leb n most)
  Some n

-- without a minus: at most 2^63 − 1
unfoldable pub unsigned_of : List ℕ → Option ℕ
unsigned_of s = up_to (2 ^ 63 - 1) (positive_of s)

-- after a minus: at most 2^63
unfoldable pub negative_of : List ℕ → Option ℕ
negative_of s = do
  n ← up_to (2 ^ 63) (positive_of s)
  Some (2 ^ 64 - n)

-- an optional minus; 45 is '-'
unfoldable pub signed_of : List ℕ → Option ℕ
signed_of [] = None
signed_of (b ∷ s) = pick (eqb b 45) (negative_of s) (unsigned_of (b ∷ s))

-- the pattern of the integer that a string is, if it is one; 48 is '0'
unfoldable pub pattern_of : List ℕ → Option ℕ
pattern_of s = pick (same s (48 ∷ [])) (Some 0) (signed_of s)
