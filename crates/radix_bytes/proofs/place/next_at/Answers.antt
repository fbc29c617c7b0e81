-- `next_at` meets its contract. Assumes nothing.
use mathlib.Core.Path.{◌∙◌}
use native.Mathlib.Omega.{arith}
use Rattle.radix_bytes.proofs.Places.{next_of}
use Rattle.radix_bytes.proofs.place.next_at.Goals as goal

pub returns : goal.returns
returns c = let x = c.args in (c.read_le.ensures.0 ∙ next_of x.s.now x.p (omega arith), omega (arith, c.read_le.ensures.1))
