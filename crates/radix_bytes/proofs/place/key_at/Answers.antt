-- `key_at` meets its contract. Assumes nothing.
use mathlib.Core.Path.{◌∙◌}
use native.Mathlib.Omega.{arith}
use Rattle.radix_bytes.proofs.Places.{key_of}
use Rattle.radix_bytes.proofs.place.key_at.Goals as goal

pub returns : goal.returns
returns c = let x = c.args in (c.wide_place.ensures.0 ∙ key_of x.s.now x.p (omega arith), c.wide_place.ensures.1)
