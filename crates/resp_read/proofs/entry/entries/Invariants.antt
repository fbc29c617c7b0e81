-- The invariant: where the entries end is where those that are left end. Assumes nothing.
use mathlib.Core.Path.{◌≡◌}
use Prim.Native.Nat.{◌-◌, ◌≤◌}
use lib.ListN.{length}
use Rattle.resp_read.specs.Answer.{entries_end}
use Rattle.resp_read.proofs.entry.entries.Given as goal

abbrev pub invariant-loop : goal.invariant-loop
invariant-loop l = (entries_end l.s l.n l.initial.last l.at ≡ entries_end l.s (l.n - l.counter) l.last l.next) × (l.next ≤ length l.s)
