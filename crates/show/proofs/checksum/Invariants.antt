-- `show::checksum` is safe: both sums stay below 65,521. Assumes nothing.
use Prim.Native.Nat.{◌<◌}
use Rattle.show.proofs.checksum.Given as goal

abbrev pub invariant-loop-x : goal.invariant-loop-x
invariant-loop-x l = (l.a < 65521) × (l.b < 65521)
