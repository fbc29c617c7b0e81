-- `last_at_or_below` meets its contract. Assumes nothing.
use mathlib.Core.Path.{ap}
use Rattle.keys.specs.Operation.{last_at_or_below}
use Rattle.keys.specs.Answer.{neighbour_of}
use Rattle.index_bytes.proofs.Steps.{judged_2, judged_sound}
use Rattle.index_bytes.proofs.look.last_at_or_below.Goals as goal

pub returns-then-not-is_sound : goal.returns-then-not-is_sound
returns-then-not-is_sound c = let x = c.args in ap neighbour_of (judged_2 x.bytes.now c.requires c.is_sound.result c.is_sound.ensures (last_at_or_below x.key.now) (c.if-not-is_sound.true))

pub last_at_or_below_sound-requires : goal.last_at_or_below_sound-requires
last_at_or_below_sound-requires c = let x = c.args in (c.requires, judged_sound x.bytes.now c.requires c.is_sound.result c.is_sound.ensures (c.if-not-is_sound.false))
