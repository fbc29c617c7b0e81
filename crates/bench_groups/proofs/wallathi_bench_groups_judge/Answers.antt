-- The function meets its contract. Assumes nothing.
use mathlib.Core.Path.{sym, ap, ◌∙◌}
use Rattle.bench_groups.specs.Answer.{as_number}
use Rattle.bench_groups.proofs.wallathi_bench_groups_judge.Goals as goal

pub returns-then-judge : goal.returns-then-judge
returns-then-judge c = ap as_number (sym c.if-judge.true ∙ c.judge.ensures)

pub returns-else-judge : goal.returns-else-judge
returns-else-judge c = ap as_number (sym c.if-judge.false ∙ c.judge.ensures)
