-- `group_end` meets its contract. Assumes nothing.
use mathlib.Core.Path.{◌≡◌}
use Prim.Native.Nat.{◌+◌, ◌-◌}
use Rattle.radix.specs.Rows.{alike_at}
use Rattle.radix.proofs.construction.group_end.Given as goal

abbrev pub invariant-loop-i : goal.invariant-loop-i
invariant-loop-i l = l.i + alike_at l.key l.d l.c l.i (l.b - l.i) ≡ l.a + 1 + alike_at l.key l.d l.c (l.a + 1) (l.b - (l.a + 1))
