-- `root_of` meets its contract. Assumes nothing.
use mathlib.Core.Path.{◌∙◌}
use native.Mathlib.Omega.{arith}
use Rattle.radix_bytes.proofs.Places.{root_of}
use Rattle.radix_bytes.proofs.place.root_of.Goals as goal

pub returns : goal.returns
returns c = (c.read_le.ensures.0 ∙ root_of c.args.s.now, omega (arith, c.read_le.ensures.1))
