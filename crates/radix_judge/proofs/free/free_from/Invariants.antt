-- `free_from` meets its contract. Assumes nothing.
use mathlib.Core.Path.{◌≡◌}
use Prim.Native.Nat.{◌-◌}
use Rattle.radix_bytes.specs.Bytes.{pool_in}
use Rattle.radix_judge.specs.Visit.{are_free}
use Rattle.radix_judge.proofs.free.free_from.Given as goal

abbrev pub invariant-loop-p : goal.invariant-loop-p
invariant-loop-p l = are_free (pool_in l.s) l.marks l.p (256 - l.p) ≡ are_free (pool_in l.s) l.marks l.from (256 - l.from)
