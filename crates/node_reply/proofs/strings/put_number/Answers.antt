-- Assumes nothing.
use native.Mathlib.Omega.{arith}
use Rattle.decimal.specs.Text.{text_of}
use Rattle.node_reply.proofs.Written.{wrote, wrote_by, wrote_is}
use Rattle.node_reply.proofs.Bulks.{bulk_start, bulk_room, bulk_end, bulk_wrote}
use Rattle.node_reply.proofs.strings.put_number.Goals as goal

pub write_head-at-requires : goal.write_head-at-requires
write_head-at-requires c = bulk_start (text_of c.args.p) _ _ _ c.requires c.text_size-n.ensures

pub write_text-requires : goal.write_text-requires
write_text-requires c = omega (arith, bulk_room (text_of c.args.p) c.requires c.text_size-n.ensures (wrote c.write_head-at.ensures))

pub overflow_add-at : goal.overflow_add-at
overflow_add-at c = omega (arith, c.text_size-n.ensures, bulk_room (text_of c.args.p) c.requires c.text_size-n.ensures (wrote c.write_head-at.ensures))

pub write_end-requires : goal.write_end-requires
write_end-requires c = bulk_end (text_of c.args.p) c.requires c.text_size-n.ensures (wrote c.write_head-at.ensures) (wrote_by c.text_size-n.ensures c.write_text.ensures)

pub returns : goal.returns
returns c = wrote_is (bulk_wrote (text_of c.args.p) c.requires c.text_size-n.ensures (wrote c.write_head-at.ensures) (wrote_by c.text_size-n.ensures c.write_text.ensures) (wrote c.write_end.ensures))
