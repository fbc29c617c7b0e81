-- A yes or no as the number that C is given. Assumes nothing.
use Rattle.std.specs.Prelude.{Bool, true, false, ℕ}

abbrev pub as_number : Bool → ℕ
as_number true = 1
as_number false = 0
