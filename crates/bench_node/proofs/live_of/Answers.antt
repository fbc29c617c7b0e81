-- Assumes nothing.
use mathlib.Core.Path.{sym, ◌∙◌}
use Rattle.bench_node.proofs.Slots.{live_by_lem}
use Rattle.bench_node.proofs.live_of.Goals as goal

pub returns-in-Some : goal.returns-in-Some
returns-in-Some c = live_by_lem _ _ _ (sym c.in-Some.is ∙ c.judge.ensures)

pub returns-in-None : goal.returns-in-None
returns-in-None c = live_by_lem _ _ _ (sym c.in-None.is ∙ c.judge.ensures)
