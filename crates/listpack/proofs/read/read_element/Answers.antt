-- `listpack::read::read_element` meets its contract. Assumes nothing.
use mathlib.Core.Path.{refl, sym, ap, ◌∙◌}
use native.Mathlib.Omega.{arith}
use Rattle.listpack.proofs.Leaves.{read_none, read_tiny}
use Rattle.listpack.specs.Read.{as_integer}
use Rattle.listpack.proofs.read.read_element.Goals as goal

pub returns-then-s-lt2 : goal.returns-then-s-lt2
returns-then-s-lt2 c = sym (read_none _ (omega arith))

pub returns-then-b-lt128 : goal.returns-then-b-lt128
returns-then-b-lt128 c = c.as_integer.ensures ∙ ap (as_integer c.wide-b.result 1) c.integer_stands.ensures ∙ sym (read_tiny _ _ _ (omega arith) (omega arith) refl (omega arith))

pub read_longer-requires : goal.read_longer-requires
read_longer-requires c = (omega arith, omega arith, omega arith, omega arith)

pub returns : goal.returns
returns c = c.read_longer.ensures
