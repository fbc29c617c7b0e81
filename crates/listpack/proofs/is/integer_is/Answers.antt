-- `listpack::is::integer_is` meets its contract. Assumes nothing.
use mathlib.Core.Path.{sym, ◌∙◌}
use native.Mathlib.Omega.{arith}
use Rattle.listpack.proofs.Compared.{same_text, other_text}
use Rattle.listpack.proofs.is.integer_is.Goals as goal

pub returns-in-Some : goal.returns-in-Some
returns-in-Some c = sym (same_text _ _ (omega arith) _ (sym c.recognise-found.ensures ∙ c.in-Some.is))

pub returns-in-None : goal.returns-in-None
returns-in-None c = sym (other_text _ _ (omega arith) (sym c.recognise-found.ensures ∙ c.in-None.is))
