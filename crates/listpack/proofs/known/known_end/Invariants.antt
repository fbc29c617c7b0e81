-- Assumes nothing.
use mathlib.Core.Path.{◌≡◌}
use mathlib.Core.Bool.{true}
use Prim.Native.Nat.{◌-◌}
use Rattle.listpack.specs.Known.{are_there, end_at}
use Rattle.listpack.proofs.known.known_end.Given as goal

abbrev pub invariant-loop-k : goal.invariant-loop-k
invariant-loop-k l = (are_there (l.n - l.k) l.s l.to ≡ true) × (end_at l.n l.s l.initial.to ≡ end_at (l.n - l.k) l.s l.to)
