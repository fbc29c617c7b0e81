-- What an index was found to hold: its entries, or none where it is not the shape of any key set (01, refusal 2). Assumes nothing.
use Rattle.std.specs.Prelude.{◌≡◌, List, [], ◌≤◌, Option, Some, None}
use Rattle.keys.specs.Entries.{Entry}
use Rattle.keys.specs.Table.{tabled, table_of}
use Rattle.keys.specs.declared.Table.{Table}

-- its entries, none where it holds none
abbrev pub entries_or : Option (List Entry) → List Entry
entries_or None = []
entries_or (Some es) = es

-- a listing of what an index holds
abbrev pub Lists : Option (List Entry) → Option Table → Type 0
Lists o None = o ≡ None
Lists o (Some t) = (o ≡ Some (tabled t)) × ((t.n ≤ 64) × (t ≡ table_of (tabled t)))

-- an index that holds entries
abbrev pub IsSound : Option (List Entry) → Type 0
IsSound None = ⊥
IsSound (Some es) = Unit {0}
