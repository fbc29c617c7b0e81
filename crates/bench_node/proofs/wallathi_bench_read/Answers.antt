-- Assumes nothing.
use mathlib.Core.Path.{◌≡◌, sym, ◌∙◌}
use mathlib.Core.Bool.{true}
use Rattle.id.specs.Id.{id_of}
use Rattle.bench_node.specs.Node.{is_sound}
use Rattle.bench_node.proofs.Slots.{sound_slot}
use Rattle.bench_node.proofs.Written.{reads_not, reads_is}
use Rattle.bench_node.proofs.wallathi_bench_read.Goals as goal
use Rattle.bench_node.proofs.wallathi_bench_read.Goals.{Else-not-is_sound}

sound : (c : Else-not-is_sound) → let a = c.args in is_sound (id_of a.key_ms a.key_seq) a.slot.now ≡ true
sound c = sym c.is_sound.ensures ∙ c.if-not-is_sound.false

pub returns-then-not-is_sound : goal.returns-then-not-is_sound
returns-then-not-is_sound c = reads_not _ _ _ _ (sym c.is_sound.ensures ∙ c.if-not-is_sound.true)

pub read_message-requires : goal.read_message-requires
read_message-requires c = sound_slot _ _ (sound (goal.at.read_message-requires c).Else-not-is_sound)

pub returns-in-Ok : goal.returns-in-Ok
returns-in-Ok c = reads_is _ _ _ c.args.out.now (sound (goal.at.returns-in-Ok c).Else-not-is_sound) _ _ c.read_message.ensures.0 c.in-Ok.is _ c.read_message.ensures.1

pub returns-in-Err : goal.returns-in-Err
returns-in-Err c = reads_is _ _ _ c.args.out.now (sound (goal.at.returns-in-Err c).Else-not-is_sound) _ _ c.read_message.ensures.0 c.in-Err.is _ c.read_message.ensures.1
