-- Assumes nothing.
use mathlib.Core.Path.{sym, ◌∙◌}
use Rattle.bench_node.proofs.Slots.{from_is, live_is, sound_slot, finds_not, finds_is}
use Rattle.bench_node.proofs.wallathi_bench_find.Goals as goal

pub returns-then-not-is_sound : goal.returns-then-not-is_sound
returns-then-not-is_sound c = finds_not _ _ _ (sym c.is_sound.ensures ∙ c.if-not-is_sound.true)

pub find_live-requires : goal.find_live-requires
find_live-requires c = sound_slot _ _ (sym c.is_sound.ensures ∙ c.if-not-is_sound.false)

pub returns : goal.returns
returns c =
    c.from.ensures ∙ from_is _
    ∙ finds_is _ _ _ (sym c.is_sound.ensures ∙ c.if-not-is_sound.false) _ (c.find_live.ensures ∙ live_is _ _ _)
