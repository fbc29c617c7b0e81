-- `first_free` meets its contract. Assumes nothing.
use mathlib.Core.Path.{◌≡◌}
use Prim.Native.Nat.{◌-◌}
use Rattle.radix.specs.Record.{Nodes}
use Rattle.radix_judge.specs.Visit.{are_free}
use Rattle.radix_judge.proofs.free.first_free.Given as goal

abbrev pub invariant-loop-p : goal.invariant-loop-p
invariant-loop-p l = (x : Nodes) → are_free x l.marks l.p (256 - l.p) ≡ are_free x l.marks 0 256
