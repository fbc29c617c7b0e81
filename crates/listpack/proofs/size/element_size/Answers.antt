-- `listpack::size::element_size` meets its contract. Assumes nothing.
use mathlib.Core.Path.{sym, ◌∙◌}
use native.Mathlib.Omega.{arith}
use Rattle.listpack.proofs.Sizes.{size_none, size_integer, size_text}
use Rattle.listpack.proofs.size.element_size.Goals as goal

pub returns-then-s-ge4096 : goal.returns-then-s-ge4096
returns-then-s-ge4096 c = sym (size_none _ (omega arith))

pub returns-in-Some : goal.returns-in-Some
returns-in-Some c = c.integer_size.ensures ∙ sym (size_integer _ _ (omega arith) (sym c.recognise-found.ensures ∙ c.in-Some.is))

pub returns-in-None : goal.returns-in-None
returns-in-None c = c.text_size.ensures ∙ sym (size_text _ (omega arith) (sym c.recognise-found.ensures ∙ c.in-None.is))
