-- `entries_rise` meets its contract: the test of what is left is the whole test. Assumes nothing.
use mathlib.Core.Path.{◌≡◌}
use Prim.Native.Nat.{◌+◌, ◌-◌, ◌*◌, ◌≤◌}
use lib.ListN.{length, drop}
use Rattle.id.specs.Id.{least}
use Rattle.groups.specs.Parse.{are_entries}
use Rattle.groups.proofs.judging.entries_rise.Given as goal

abbrev pub invariant-loop : goal.invariant-loop
invariant-loop l = (l.i + (l.count - l.counter) * 27 ≤ length l.s) × (are_entries l.consumers l.above l.most (l.count - l.counter) (drop l.i l.s) ≡ are_entries l.consumers least l.most l.count (drop l.at l.s))
