-- What the answers of the code say, in the terms of Operation, and their numbers (01, Refusal numbers). Assumes nothing.
use Rattle.std.specs.Prelude.{List, ℕ, ◌≤◌, eqb, take, length, Option, Some, None, Result, Ok, Err}
use Rattle.octets.specs.Pick.{pick}
use Rattle.keys.specs.Entries.{Entry, entry}
use Rattle.keys.specs.Operation.{Reply, refused, done, removed, value, found, nothing}
use Rattle.keys.specs.Table.{filled}
use Rattle.keys.specs.declared.Neighbour.{Neighbour}
use Rattle.keys.specs.declared.Refusal.{Refusal}
use Rattle.keys.specs.declared.Refusal.TheVariants.{Damaged, BadKey, Full}

abbrev pub number_of : Refusal → ℕ
number_of Damaged = 2
number_of BadKey = 3
number_of Full = 18

-- the refusal of a number that an operation gives
abbrev pub refusal_of : ℕ → Refusal
refusal_of n = pick (eqb n 2) Damaged (pick (eqb n 3) BadKey Full)

-- what an answer says, where f says what was done
abbrev pub reply_of : {A : Type 0} → (A → Reply) → Result A Refusal → Reply
reply_of f (Ok a) = f a
reply_of f (Err e) = refused (number_of e)

abbrev pub found_in : Option Neighbour → Reply
found_in None = nothing
found_in (Some n) = found (entry (take n.len n.key) n.value)

abbrev pub neighbour_reply : Result (Option Neighbour) Refusal → Reply
neighbour_reply r = reply_of found_in r

-- zeros after a key, to 16 bytes
abbrev pub padded : List ℕ → List ℕ
padded k = filled 16 k

-- a neighbour, its key of len bytes with zeros after it
abbrev pub neighbour_as : ℕ → ℕ → List ℕ → Neighbour
neighbour_as len v key = record { len = len; value = v; key = key }

abbrev pub near_of : Entry → Neighbour
near_of e = neighbour_as (length e.key) e.value (padded e.key)

-- the neighbour that a reply gives; the neighbours never answer done, removed or value, and refuse with 2 or 3 alone
abbrev pub neighbour_of : Reply → Result (Option Neighbour) Refusal
neighbour_of (refused n) = Err (refusal_of n)
neighbour_of done = Ok None
neighbour_of (removed n) = Ok None
neighbour_of (value v) = Ok None
neighbour_of (found e) = Ok (Some (near_of e))
neighbour_of nothing = Ok None

-- its key has at most 16 bytes
abbrev pub IsShort : Result (Option Neighbour) Refusal → Type 0
IsShort (Ok None) = Unit {0}
IsShort (Ok (Some n)) = n.len ≤ 16
IsShort (Err e) = Unit {0}
