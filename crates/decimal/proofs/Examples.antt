-- Strings and the patterns of the integers that they are, computed. Assumes nothing.
use mathlib.Core.Path.{◌≡◌, refl}
use mathlib.Core.List.{List, [], ◌∷◌, map}
use Rattle.std.proofs.Common.{Option, Some, None}
use Prim.Native.Nat.{ℕ, ◌-◌, ◌^◌}
use Rattle.octets.specs.Compare.{same}
use Rattle.decimal.specs.Integer.{pattern_of, signed_of, negative_of, unsigned_of, positive_of, digits_after}
use Rattle.decimal.specs.Steps.{grown, after, signed, so_far}
use Rattle.decimal.specs.declared.recognition.Prefix.TheVariants.{Empty}
use Rattle.decimal.specs.Text.{text_of, natural_text, digits_of}

pub record Row : Type 0 where
  pub string : List ℕ
  pub pattern : Option ℕ

abbrev row : List ℕ → Option ℕ → Row
row s o = record { string = s; pattern = o }

-- the digits of 9223372036854775807, but the last
abbrev largest_but : List ℕ → List ℕ
largest_but end = 57 ∷ 50 ∷ 50 ∷ 51 ∷ 51 ∷ 55 ∷ 50 ∷ 48 ∷ 51 ∷ 54 ∷ 56 ∷ 53 ∷ 52 ∷ 55 ∷ 55 ∷ 53 ∷ 56 ∷ 48 ∷ end

table : List Row
table =
    -- "0", "127", "-1", "-4096", 9223372036854775807, -9223372036854775808
    row (48 ∷ []) (Some 0)
    ∷ row (49 ∷ 50 ∷ 55 ∷ []) (Some 127)
    ∷ row (45 ∷ 49 ∷ []) (Some (2 ^ 64 - 1))
    ∷ row (45 ∷ 52 ∷ 48 ∷ 57 ∷ 54 ∷ []) (Some (2 ^ 64 - 4096))
    ∷ row (largest_but (55 ∷ [])) (Some (2 ^ 63 - 1))
    ∷ row (45 ∷ largest_but (56 ∷ [])) (Some (2 ^ 63))
    -- no integers: "", "-", "-0", "007", "+1", "1a", 9223372036854775808, -9223372036854775809
    ∷ row [] None
    ∷ row (45 ∷ []) None
    ∷ row (45 ∷ 48 ∷ []) None
    ∷ row (48 ∷ 48 ∷ 55 ∷ []) None
    ∷ row (43 ∷ 49 ∷ []) None
    ∷ row (49 ∷ 97 ∷ []) None
    ∷ row (largest_but (56 ∷ [])) None
    ∷ row (45 ∷ largest_but (57 ∷ [])) None
    ∷ []

read : map (λ (r : Row). pattern_of r.string) table ≡ map (λ (r : Row). r.pattern) table
unfolding table pattern_of signed_of negative_of unsigned_of positive_of digits_after same
read = refl

stepwise : map (λ (r : Row). so_far (after Empty r.string)) table ≡ map (λ (r : Row). r.pattern) table
unfolding table after grown signed
stepwise = refl

-- the text of the pattern, where there is one
abbrev text_back : List ℕ → Option ℕ → List ℕ
text_back s None = s
text_back s (Some p) = text_of p

written : map (λ (r : Row). text_back r.string r.pattern) table ≡ map (λ (r : Row). r.string) table
unfolding table text_of natural_text digits_of
written = refl
