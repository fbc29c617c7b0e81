-- Recognition in one pass (02, CR 3): a state that takes one byte a step and answers for the bytes so far. Which strings are integers is
-- said by `pattern_of`; that after the steps of any string the answer is the same is the law `recognised`. Assumes nothing.
use Rattle.std.specs.Prelude.{Bool, true, false, List, [], ◌∷◌, ℕ, ◌+◌, ◌-◌, ◌*◌, ◌^◌, leb, ltb, eqb, Option, Some, None}
use Rattle.octets.specs.Pick.{pick, both}
use Rattle.octets.specs.Maybe.{◌>>◌, need}
use Rattle.decimal.specs.declared.recognition.Prefix.{Prefix}
use Rattle.decimal.specs.declared.recognition.Prefix.TheVariants.{Empty, Minus, Number, Failed}

-- from `low` to '9'
abbrev pub is_digit_from : ℕ → ℕ → Bool
is_digit_from low b = both (leb low b) (leb b 57)

-- a digit more, but not after 0; a number from 10^18 on would pass the range for good
unfoldable pub grown : Bool → Bool → ℕ → ℕ → ℕ → Prefix
grown negative zero n low b = pick zero Failed (pick (both (ltb n (10 ^ 18)) (is_digit_from low b)) (Number negative zero (10 * n + (b - 48))) Failed)

-- a step: one byte more; 48 is '0', 45 is '-'
abbrev pub stepped : Prefix → ℕ → Prefix
stepped Empty b = pick (eqb b 48) (Number false true 0) (pick (eqb b 45) Minus (grown false false 0 49 b))
stepped Minus b = grown true false 0 49 b
stepped (Number negative zero n) b = grown negative zero n 48 b
stepped Failed b = Failed

-- the steps of a string
unfoldable pub after : Prefix → List ℕ → Prefix
after p [] = p
after p (b ∷ bs) = after (stepped p b) bs

-- the pattern of a number with its sign, in signed 64-bit range; -0 is none
unfoldable pub signed : Bool → ℕ → Option ℕ
signed false n = do
  need (leb n (2 ^ 63 - 1))
  Some n
signed true n = do
  need (both (leb 1 n) (leb n (2 ^ 63)))
  Some (2 ^ 64 - n)

-- the answer for the bytes so far
abbrev pub so_far : Prefix → Option ℕ
so_far Empty = None
so_far Minus = None
so_far (Number negative zero n) = signed negative n
so_far Failed = None
