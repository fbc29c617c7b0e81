-- `pending_count` meets its contract. Assumes nothing.
use mathlib.Core.Path.{sym, ◌∙◌}
use Prim.Native.Nat.{◌-◌}
use native.Mathlib.Omega.{arith}
use Rattle.groups.proofs.Verdicts.{sound_tested}
use Rattle.groups.proofs.Searched.{entries_counted}
use Rattle.groups.proofs.reading.pending_count.Goals as goal

pub read_le-requires : goal.read_le-requires
read_le-requires c = omega (arith, (sound_tested c.args.region.now c.requires).size)

pub returns : goal.returns
returns c = (c.read_le.ensures.0 ∙ sym (entries_counted c.args.region.now), omega (arith, c.read_le.ensures.0, (sound_tested c.args.region.now c.requires).room))
