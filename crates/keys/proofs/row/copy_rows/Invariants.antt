-- `copy_rows` meets its contract. Assumes nothing.
use mathlib.Core.Path.{◌≡◌}
use mathlib.Core.List.{◌++◌}
use Prim.Native.Nat.{◌+◌, ◌-◌}
use Rattle.keys.specs.Table.{columns, rows_from, tabled, table_of}
use Rattle.keys.proofs.row.copy_rows.Given as goal

abbrev pub invariant-loop-i : goal.invariant-loop-i
invariant-loop-i l =
    (l.t.n + (l.b - l.i) ≡ l.initial.t.n + (l.b - l.a))
    × ((tabled l.t ++ rows_from (columns l.from.len l.from.val l.from.key) l.i (l.b - l.i) ≡ tabled l.initial.t ++ rows_from (columns l.from.len l.from.val l.from.key) l.a (l.b - l.a))
    × (l.t ≡ table_of (tabled l.t)))
