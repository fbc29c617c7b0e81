-- The invariant: what is read is what the digits that are left give after those of n. Assumes nothing.
use mathlib.Core.Path.{◌≡◌}
use Prim.Native.Nat.{◌^◌, ◌<◌}
use Rattle.resp_read.specs.Answer.{digits_at}
use Rattle.resp_read.proofs.part.digits.Given as goal

abbrev pub invariant-loop-i : goal.invariant-loop-i
invariant-loop-i l = (digits_at l.s l.first l.at ≡ digits_at l.s l.n l.i) × (l.n < 2 ^ 64)
