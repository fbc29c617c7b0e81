-- Choice by a test. Assumes nothing.
use Rattle.std.specs.Prelude.{Bool, true, false}

abbrev pub pick : {A : Type 0} → Bool → A → A → A
pick true a b = a
pick false a b = b

-- both tests; the second only counts where the first holds
abbrev pub both : Bool → Bool → Bool
both a b = pick a b false
