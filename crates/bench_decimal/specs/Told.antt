-- What a string is, in C's numbers. Assumes nothing.
use Rattle.std.specs.Prelude.{ℕ, Option, Some, None}

-- 1 for an integer
abbrev pub code_of : Option ℕ → ℕ
code_of (Some p) = 1
code_of None = 0

-- what the out-parameter then holds: the pattern, or what it held
abbrev pub over : Option ℕ → ℕ → ℕ
over (Some p) held = p
over None held = held
