-- `zero_word` meets its contract. Assumes nothing.
use mathlib.Core.Path.{ap, ◌∙◌}
use Prim.Native.Nat.{ℕ}
use lib.Dec.{eqb}
use Rattle.octets.specs.Place.{area}
use Rattle.radix_judge.proofs.Tests.{word_zero}
use Rattle.radix_judge.proofs.node.zero_word.Goals as goal

pub returns : goal.returns
returns c = ap (λ (v : ℕ). eqb v 0) c.read_le.ensures.0 ∙ word_zero (area c.args.at 8 c.args.s.now)
