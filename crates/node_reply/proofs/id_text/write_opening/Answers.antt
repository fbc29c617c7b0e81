-- Assumes nothing.
use mathlib.Core.Path.{◌≡◌}
use native.Mathlib.Omega.{arith}
use Prim.Native.Nat.{◌+◌}
use lib.ListN.{length}
use Rattle.decimal.proofs.Laws.{length_natural}
use Rattle.resp.specs.Reply.{id_text}
use Rattle.node_reply.proofs.Written.{wrote, wrote_by, wrote_is}
use Rattle.node_reply.proofs.Bulks.{length_id, length_opening, bulk_start, bulk_room, bulk_end, bulk_wrote, opening_bulk, opening_end, opening_wrote}
use Rattle.node_reply.proofs.id_text.write_opening.Goals as goal
use Rattle.node_reply.proofs.id_text.write_opening.Goals.{After-natural_size-seq}

size : (c : After-natural_size-seq) → c.natural_size-ms.result + 1 + c.natural_size-seq.result ≡ length (id_text c.args.id)
size c = omega (arith, c.natural_size-ms.ensures, c.natural_size-seq.ensures, length_id c.args.id)

pub write_head-first-requires : goal.write_head-first-requires
write_head-first-requires c = let a = c.args in omega (arith, c.requires.1, length_opening a.id a.pairs)

pub overflow_add-n : goal.overflow_add-n
overflow_add-n c = omega (arith, c.natural_size-ms.ensures, length_natural c.args.id.ms)

pub overflow_add-n-2 : goal.overflow_add-n-2
overflow_add-n-2 c = let i = c.args.id in omega (arith, c.natural_size-ms.ensures, c.natural_size-seq.ensures, length_natural i.ms, length_natural i.seq)

pub write_head-text-requires : goal.write_head-text-requires
write_head-text-requires c = let a = c.args in bulk_start (id_text a.id) _ _ _ (opening_bulk a.id a.pairs c.requires.1 (wrote c.write_head-first.ensures)) (size (goal.at.write_head-text-requires c).After-natural_size-seq)

pub write_id_text-requires : goal.write_id_text-requires
write_id_text-requires c =
    let a = c.args in
    (c.natural_size-ms.ensures, c.natural_size-seq.ensures, omega (arith, bulk_room (id_text a.id) (opening_bulk a.id a.pairs c.requires.1 (wrote c.write_head-first.ensures)) (size (goal.at.write_id_text-requires c).After-natural_size-seq) (wrote c.write_head-text.ensures)))

pub overflow_add-text : goal.overflow_add-text
overflow_add-text c =
    let a = c.args in
    omega (arith, size (goal.at.overflow_add-text c).After-natural_size-seq, bulk_room (id_text a.id) (opening_bulk a.id a.pairs c.requires.1 (wrote c.write_head-first.ensures)) (size (goal.at.overflow_add-text c).After-natural_size-seq) (wrote c.write_head-text.ensures))

pub write_end-next-requires : goal.write_end-next-requires
write_end-next-requires c =
    let a = c.args in
    bulk_end (id_text a.id) (opening_bulk a.id a.pairs c.requires.1 (wrote c.write_head-first.ensures)) (size (goal.at.write_end-next-requires c).After-natural_size-seq) (wrote c.write_head-text.ensures) (wrote_by (size (goal.at.write_end-next-requires c).After-natural_size-seq) c.write_id_text.ensures)

pub write_head-requires : goal.write_head-requires
write_head-requires c =
    let a = c.args in
    let w = wrote c.write_head-first.ensures in
    let q = size (goal.at.write_head-requires c).After-natural_size-seq in
    opening_end a.id a.pairs c.requires.1 w (bulk_wrote (id_text a.id) (opening_bulk a.id a.pairs c.requires.1 w) q (wrote c.write_head-text.ensures) (wrote_by q c.write_id_text.ensures) (wrote c.write_end-next.ensures))

pub returns : goal.returns
returns c =
    let a = c.args in
    let w = wrote c.write_head-first.ensures in
    let q = size (goal.at.returns c).After-natural_size-seq in
    wrote_is (opening_wrote a.id a.pairs c.requires.1 w (bulk_wrote (id_text a.id) (opening_bulk a.id a.pairs c.requires.1 w) q (wrote c.write_head-text.ensures) (wrote_by q c.write_id_text.ensures) (wrote c.write_end-next.ensures)) (wrote c.write_head.ensures))
