-- `delivered` meets its contract: the group has the ID that is read. Assumes nothing.
use Prim.Native.Nat.{◌-◌}
use native.Mathlib.Omega.{arith}
use Rattle.groups.specs.Parse.{delivered_in, group_in}
use Rattle.groups.proofs.Verdicts.{sound_tested}
use Rattle.groups.proofs.reading.delivered.Goals as goal

pub read_id-requires : goal.read_id-requires
unfolding group_in delivered_in
read_id-requires c = omega (arith, (sound_tested c.args.region.now c.requires).size)

pub returns : goal.returns
unfolding group_in delivered_in
returns c = c.read_id.ensures
