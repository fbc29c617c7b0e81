-- What a claim's answer says: did the entry move? Assumes nothing.
use Rattle.std.specs.Prelude.{Bool, false, Result, Ok, Err}
use Rattle.refusal.specs.declared.Refusal.{Refusal}

abbrev pub is_moved : Result Bool Refusal → Bool
is_moved (Ok moved) = moved
is_moved (Err r) = false
