-- Assumes nothing.
use mathlib.Core.Path.{ap, ◌∙◌}
use Rattle.bench_node.specs.Answer.{as_number}
use Rattle.bench_node.proofs.Slots.{from_is}
use Rattle.bench_node.proofs.wallathi_bench_judge.Goals as goal

pub returns : goal.returns
returns c = c.from.ensures ∙ from_is _ ∙ ap as_number c.is_sound.ensures
