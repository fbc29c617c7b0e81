-- Assumes nothing.
use native.Mathlib.Omega.{arith}
use lib.ListN.{length-set}
use Prim.Native.Nat.{◌+◌, ◌/◌}
use Rattle.octets.proofs.Laws.{put_two}
use Rattle.decimal.proofs.text.write_two.Goals as goal

pub bounds-d-at-2 : goal.bounds-d-at-2
bounds-d-at-2 c = let x = c.args in omega (arith, c.requires.1, length-set x.d.now x.at (48 + x.n / 10))

pub returns : goal.returns
returns c = let x = c.args in put_two x.d.now x.at _ _ c.requires.1
