-- `value_at` meets its contract. Assumes nothing.
use mathlib.Core.Path.{◌∙◌}
use native.Mathlib.Omega.{arith}
use Rattle.radix_bytes.proofs.Places.{value_of}
use Rattle.radix_bytes.proofs.place.value_at.Goals as goal

pub overflow_cast-result : goal.overflow_cast-result
overflow_cast-result c = omega (arith, c.read_le.ensures.1)

pub returns : goal.returns
returns c = let x = c.args in (c.read_le.ensures.0 ∙ value_of x.s.now x.p (omega arith), omega (arith, c.read_le.ensures.1))
