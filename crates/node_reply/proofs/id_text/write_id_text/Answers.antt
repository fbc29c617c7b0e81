-- Assumes nothing.
use native.Mathlib.Omega.{arith}
use Rattle.node_reply.proofs.Written.{wrote_by, wrote_length}
use Rattle.node_reply.proofs.Bulks.{length_id, id_room, id_second, id_wrote}
use Rattle.node_reply.proofs.id_text.write_id_text.Goals as goal

pub overflow_add-hyphen : goal.overflow_add-hyphen
overflow_add-hyphen c = omega (arith, c.requires.0, c.requires.2, length_id c.args.id)

pub write_sized-requires : goal.write_sized-requires
write_sized-requires c = (c.requires.0, omega (arith, c.requires.0, c.requires.2, length_id c.args.id))

pub bounds-d-hyphen : goal.bounds-d-hyphen
bounds-d-hyphen c = omega (arith, id_room _ c.requires.2 (wrote_by c.requires.0 c.write_sized.ensures))

pub overflow_add-hyphen-2 : goal.overflow_add-hyphen-2
overflow_add-hyphen-2 c = omega (arith, id_room _ c.requires.2 (wrote_by c.requires.0 c.write_sized.ensures))

pub write_sized-requires-2 : goal.write_sized-requires-2
write_sized-requires-2 c = (c.requires.1, omega (arith, c.requires.1, id_second _ c.requires.2 (wrote_by c.requires.0 c.write_sized.ensures)))

pub shape_of-d : goal.shape_of-d
shape_of-d c = wrote_length (id_wrote _ c.requires.2 (wrote_by c.requires.0 c.write_sized.ensures) (wrote_by c.requires.1 c.write_sized-2.ensures)) c.requires.2

pub returns : goal.returns
returns c = (id_wrote _ c.requires.2 (wrote_by c.requires.0 c.write_sized.ensures) (wrote_by c.requires.1 c.write_sized-2.ensures)).bytes
