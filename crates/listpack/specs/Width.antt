-- Two's complement over half a range. A number from −half to half − 1 is a pattern below 2^64 in the program, and a pattern
-- below 2 · half in a form of that range. Assumes nothing.
use Rattle.std.specs.Prelude.{Bool, true, ℕ, ◌+◌, ◌-◌, ◌*◌, ◌^◌, ltb, leb}
use Rattle.octets.specs.Pick.{pick}

-- the number is from −half to half − 1
unfoldable pub fits : ℕ → ℕ → Bool
fits half p = pick (ltb p half) true (leb (2 ^ 64 - half) p)

unfoldable pub narrow : ℕ → ℕ → ℕ
narrow half p = pick (ltb p half) p (p - (2 ^ 64 - 2 * half))

unfoldable pub extend : ℕ → ℕ → ℕ
extend half v = pick (ltb v half) v (v + (2 ^ 64 - 2 * half))

-- half the range of w bytes
abbrev pub half_of : ℕ → ℕ
half_of w = 2 ^ (8 * w - 1)
