-- `rank_of` meets its contract. Assumes nothing.
use mathlib.Core.Path.{◌≡◌}
use Prim.Native.Nat.{◌+◌, ◌-◌}
use Rattle.keys.specs.Table.{columns, rows_from, tabled}
use Rattle.keys.specs.Rank.{rank}
use Rattle.keys.proofs.row.rank_of.Given as goal

abbrev pub invariant-loop-i : goal.invariant-loop-i
invariant-loop-i l = l.i + rank l.k (rows_from (columns l.t.len l.t.val l.t.key) l.i (l.t.n - l.i)) ≡ rank l.k (tabled l.t)
