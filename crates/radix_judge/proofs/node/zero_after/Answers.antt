-- `zero_after` meets its contract. Assumes nothing.
use mathlib.Core.Path.{ap₂, ◌∙◌}
use Prim.Native.Nat.{◌*◌}
use native.Mathlib.Nat.{one-mul}
use native.Mathlib.Omega.{arith}
use lib.Dec.{ltb}
use lib.Pow.{shl_exact}
use Rattle.radix_judge.proofs.Tests.{after_zero}
use Rattle.radix_judge.proofs.node.zero_after.Goals as goal

pub returns : goal.returns
returns c = let x = c.args in ap₂ ltb c.read_le.ensures.0 (shl_exact 1 (8 * x.k) 64 (omega arith) (omega arith) ∙ one-mul _) ∙ after_zero x.s.now x.at x.k (record { byte = λ j. (c.type_inv.s j).fits }) c.requires.0 (omega arith)
