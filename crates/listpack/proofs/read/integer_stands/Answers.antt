-- `listpack::read::integer_stands` meets its contract. Assumes nothing.
use mathlib.Core.Path.{sym, ◌∙◌}
use native.Mathlib.Omega.{arith}
use Rattle.listpack.proofs.Leaves.{integer_other, integer_last}
use Rattle.listpack.proofs.read.integer_stands.Goals as goal

pub returns-then-body_size-n : goal.returns-then-body_size-n
returns-then-body_size-n c = sym (integer_other _ _ _ (omega arith))

pub returns : goal.returns
returns c = c.back_at.ensures ∙ sym (integer_last _ _ _ (omega arith))
