-- Assumes nothing.
use mathlib.Core.Path.{sym, ap, ◌∙◌}
use native.Mathlib.Omega.{arith}
use lib.ListN.{length}
use Rattle.octets.specs.Place.{area, put}
use Rattle.octets.proofs.Laws.{part_is, length_area}
use Rattle.node_reply.proofs.Written.{wrote, wrote_by, wrote_is}
use Rattle.node_reply.proofs.Bulks.{bulk_start, bulk_room, bulk_end, bulk_wrote}
use Rattle.node_reply.proofs.strings.put_text.Goals as goal

pub write_head-at-requires : goal.write_head-at-requires
write_head-at-requires c =
    let a = c.args in
    bulk_start (area a.from a.len a.s.now) _ _ _ c.requires.1 (sym (length_area a.from a.len a.s.now c.requires.0))

pub copy_in-requires : goal.copy_in-requires
copy_in-requires c =
    let a = c.args in
    let q = sym (length_area a.from a.len a.s.now c.requires.0) in
    omega (arith, bulk_room (area a.from a.len a.s.now) c.requires.1 q (wrote c.write_head-at.ensures), ap length (part_is a.from a.len a.s.now))

pub overflow_add-at : goal.overflow_add-at
overflow_add-at c =
    let a = c.args in
    let q = sym (length_area a.from a.len a.s.now c.requires.0) in
    omega (arith, q, bulk_room (area a.from a.len a.s.now) c.requires.1 q (wrote c.write_head-at.ensures))

pub write_end-requires : goal.write_end-requires
write_end-requires c =
    let a = c.args in
    let q = sym (length_area a.from a.len a.s.now c.requires.0) in
    bulk_end (area a.from a.len a.s.now) c.requires.1 q (wrote c.write_head-at.ensures) (wrote_by q (c.copy_in.ensures ∙ ap (put _ _) (part_is a.from a.len a.s.now)))

pub returns : goal.returns
returns c =
    let a = c.args in
    let q = sym (length_area a.from a.len a.s.now c.requires.0) in
    wrote_is (bulk_wrote (area a.from a.len a.s.now) c.requires.1 q (wrote c.write_head-at.ensures) (wrote_by q (c.copy_in.ensures ∙ ap (put _ _) (part_is a.from a.len a.s.now))) (wrote c.write_end.ensures))
