-- `deliver_all` meets its contract. The loop's invariant: the rows that are left, put into the region, make all rows.
-- Assumes nothing.
use mathlib.Core.Path.{◌≡◌}
use Prim.Native.Nat.{◌+◌}
use lib.ListN.{length}
use Rattle.groups_change.specs.Change.{ids_in}
use Rattle.groups_change.proofs.Batches.{ids_from, rows_put}
use Rattle.groups_change.proofs.commands.deliver_all.Given as goal

abbrev pub invariant-loop-j : goal.invariant-loop-j
invariant-loop-j l = (length l.region ≡ 7220) × (rows_put l.place l.time l.region (l.n + l.j) (ids_from l.k l.ids l.j) ≡ rows_put l.place l.time l.initial.region l.n (ids_in l.k l.ids))
