-- Assumes nothing.
use mathlib.Core.Path.{◌∙◌}
use Rattle.bench_node.proofs.Slots.{sound_by_lem}
use Rattle.bench_node.proofs.is_sound.Goals as goal

pub returns : goal.returns
returns c = c.is_some.ensures ∙ sound_by_lem _ _ _ c.judge.ensures
