-- Assumes nothing.
use mathlib.Core.Path.{◌∙◌}
use Rattle.listpack.proofs.Lying.{small_by}
use Rattle.listpack.proofs.known.known_small.Goals as goal

pub returns : goal.returns
returns c = (c.wide.ensures.0 ∙ small_by _ _, c.wide.ensures.1)
