-- `names_end` meets its contract: the end of the names that are left is that of all. Assumes nothing.
use mathlib.Core.Path.{◌≡◌}
use mathlib.Core.List.{[]}
use Prim.Native.Nat.{◌-◌, ◌≤◌}
use lib.ListN.{length}
use Rattle.group_body.specs.Answer.{names_end}
use Rattle.group_body.proofs.checking.names_end.Given as goal

abbrev pub invariant-loop : goal.invariant-loop
invariant-loop l = (l.i ≤ length l.s) × (names_end l.above l.i (l.count - l.counter) l.s ≡ names_end [] l.at l.count l.s)
