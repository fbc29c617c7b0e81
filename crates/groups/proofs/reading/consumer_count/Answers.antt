-- `consumer_count` meets its contract. Assumes nothing.
use mathlib.Core.Path.{sym, ◌∙◌}
use Prim.Native.Nat.{◌-◌}
use native.Mathlib.Omega.{arith}
use Rattle.groups.proofs.Verdicts.{sound_tested}
use Rattle.groups.proofs.Searched.{consumers_counted}
use Rattle.groups.proofs.reading.consumer_count.Goals as goal

pub bounds-region-33 : goal.bounds-region-33
bounds-region-33 c = omega (arith, (sound_tested c.args.region.now c.requires).size)

pub returns : goal.returns
returns c = (c.wide.ensures.0 ∙ sym (consumers_counted c.args.region.now), omega (arith, c.wide.ensures.0, (sound_tested c.args.region.now c.requires).few))
