-- `listpack::read::is_text` meets its contract. Assumes nothing.
use Rattle.std.proofs.Common.{is_none}
use mathlib.Core.Path.{sym, ap, ◌∙◌}
use Rattle.listpack.proofs.read.is_text.Goals as goal

pub returns-in-Some : goal.returns-in-Some
returns-in-Some c = sym (ap is_none (sym c.recognise-found.ensures ∙ c.in-Some.is))

pub returns-in-None : goal.returns-in-None
returns-in-None c = sym (ap is_none (sym c.recognise-found.ensures ∙ c.in-None.is))
