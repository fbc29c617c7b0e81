-- Assumes nothing.
use mathlib.Core.Path.{refl}
use native.Mathlib.Omega.{arith}
use lib.ListN.{length-set}
use Rattle.octets.proofs.Laws.{put_two}
use Rattle.resp.proofs.write_end.Goals as goal

pub bounds-d-at-2 : goal.bounds-d-at-2
bounds-d-at-2 c = omega (arith, c.requires, length-set c.args.d.now c.args.at 13)

pub returns : goal.returns
returns c = (refl, put_two c.args.d.now c.args.at 13 10 c.requires)
