-- Assumes nothing.
use mathlib.Core.Path.{sym, ◌∙◌}
use native.Mathlib.Omega.{arith}
use Rattle.decimal.proofs.Laws.{pattern_long}
use Rattle.decimal.proofs.Steps.{recognised}
use Rattle.decimal.proofs.recognition.recognise.Goals as goal

pub returns-then-s-gt20 : goal.returns-then-s-gt20
returns-then-s-gt20 c = (sym (pattern_long _ (omega arith)))

pub returns : goal.returns
returns c = c.walk.ensures ∙ recognised _
