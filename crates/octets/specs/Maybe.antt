-- Answers that may be missing, one after the other: a `do` block of these stops at the first that is missing. Assumes nothing.
use Rattle.std.specs.Prelude.{Bool, true, false, Option, Some, None}

infixl 20 ◌>>=◌ ◌>>◌
abbrev pub ◌>>=◌ : {A B : Type 0} → Option A → (A → Option B) → Option B
None >>= f = None
(Some a) >>= f = f a

abbrev pub ◌>>◌ : {A B : Type 0} → Option A → Option B → Option B
None >> o = None
(Some a) >> o = o

-- a rule that has to hold
abbrev pub need : Bool → Option (Unit {0})
need true = Some tt
need false = None
