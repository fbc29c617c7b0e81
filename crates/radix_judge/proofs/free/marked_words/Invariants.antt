-- `marked_words` meets its contract. Assumes nothing.
use mathlib.Core.Path.{◌≡◌}
use Prim.Native.Nat.{◌*◌, ◌-◌}
use Rattle.radix.specs.Record.{Nodes}
use Rattle.radix_judge.specs.Visit.{are_free}
use Rattle.radix_judge.proofs.free.marked_words.Given as goal

abbrev pub invariant-loop-w : goal.invariant-loop-w
invariant-loop-w l = (x : Nodes) → are_free x l.marks (8 * l.w) (256 - 8 * l.w) ≡ are_free x l.marks 0 256
