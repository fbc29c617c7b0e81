-- What the answers of the code say, in the terms of specs/. Assumes nothing.
use Rattle.std.specs.Prelude.{◌≡◌, ◌≤◌, List, Option, Some, None}
use Rattle.keys.specs.Entries.{Entry}
use Rattle.keys.specs.Table.{tabled, table_of}
use Rattle.keys.specs.declared.Table.{Table}

-- rows gathered into a table, if there was room
abbrev pub rows_of : {A : Type 0} → Option A → Table → Option (List Entry)
rows_of None t = None
rows_of (Some a) t = Some (tabled t)

-- at most 64 rows, and zeros after them
pub record Room (t : Table) : Type 0 where
  pub rows : t.n ≤ 64
  pub exact : t ≡ table_of (tabled t)

abbrev pub Within : {A : Type 0} → Option A → Table → Type 0
Within None t = Unit {0}
Within (Some a) t = Room t
