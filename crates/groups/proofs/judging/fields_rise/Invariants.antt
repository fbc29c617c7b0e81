-- `fields_rise` meets its contract: the test of what is left is the whole test. Assumes nothing.
use mathlib.Core.Path.{◌≡◌}
use mathlib.Core.List.{[]}
use Prim.Native.Nat.{◌+◌, ◌-◌, ◌*◌, ◌≤◌}
use lib.ListN.{length, drop}
use Rattle.groups.specs.Parse.{are_fields}
use Rattle.groups.proofs.judging.fields_rise.Given as goal

abbrev pub invariant-loop : goal.invariant-loop
invariant-loop l = (l.i + (l.count - l.counter) * 17 ≤ length l.s) × (are_fields l.above (l.count - l.counter) (drop l.i l.s) ≡ are_fields [] l.count (drop l.at l.s))
