-- A place in a list of bytes: what lies there, and the list with something else there.
--
--     s:  | before | area at n | after |
--           at       n
--
-- Assumes nothing.
use Rattle.std.specs.Prelude.{List, ◌++◌, ℕ, ◌+◌, ◌-◌, max, leb, length, take, drop, Option, Some}
use Rattle.octets.specs.Maybe.{◌>>◌, need}
use Rattle.octets.specs.Bytes.{zeros}

-- the n bytes from at on
unfoldable pub area : ℕ → ℕ → List ℕ → List ℕ
area at n s = take n (drop at s)

-- s with bs from at on
unfoldable pub put : List ℕ → ℕ → List ℕ → List ℕ
put s at bs = take at s ++ (bs ++ drop (at + length bs) s)

-- how many bytes are in use after the splice below
abbrev pub spliced_end : ℕ → ℕ → ℕ → List ℕ → ℕ
spliced_end used at gone new = at + length new + (used - (at + gone))

-- of the first `used` bytes, the `gone` ones from `at` on give way to `new`; bytes that are no longer in use are zero
--
--     before  | .. at | gone | rest | bytes past used           |
--     after   | .. at | new     | rest | zeros, if it shrank | bytes past the larger end |
unfoldable pub spliced : List ℕ → ℕ → ℕ → ℕ → List ℕ → List ℕ
spliced s used at gone new =
    take at s
    ++ (new
    ++ (area (at + gone) (used - (at + gone)) s
    ++ (zeros (used - spliced_end used at gone new)
    ++ drop (max used (spliced_end used at gone new)) s)))

-- bytes taken from the front, and those after them
pub record Taken : Type 0 where
  pub bytes : List ℕ
  pub rest : List ℕ

unfoldable pub take_bytes : ℕ → List ℕ → Option Taken
take_bytes n s = do
  need (leb n (length s))
  Some (record { bytes = take n s; rest = drop n s })
