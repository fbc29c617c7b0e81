-- Assumes nothing.
use mathlib.Core.Path.{ap, ◌∙◌}
use native.Mathlib.Omega.{arith}
use lib.ListN.{length}
use Rattle.octets.proofs.Laws.{length_put}
use Rattle.resp.specs.Reply.{head}
use Rattle.resp.proofs.Writing.{length_head, number_room, end_room, put_head}
use Rattle.resp.proofs.write_head.Goals as goal

pub bounds-d-at : goal.bounds-d-at
bounds-d-at c = let a = c.args in omega (arith, c.requires, length_head a.b a.n)

pub write_sized-requires : goal.write_sized-requires
write_sized-requires c =
    let a = c.args in
    (c.natural_size-size.ensures, omega (arith, c.natural_size-size.ensures, number_room a.d.now a.at a.b a.n c.requires))

pub overflow_add-at-3 : goal.overflow_add-at-3
overflow_add-at-3 c = let a = c.args in omega (arith, c.requires, length_head a.b a.n, c.natural_size-size.ensures)

pub write_end-requires : goal.write_end-requires
write_end-requires c = let a = c.args in end_room a.d.now a.at a.b a.n c.requires _ c.natural_size-size.ensures _ c.write_sized.ensures

pub shape_of-d : goal.shape_of-d
shape_of-d c =
    let a = c.args in
    ap length (put_head a.d.now a.at a.b a.n c.requires _ c.natural_size-size.ensures _ c.write_sized.ensures _ c.write_end.ensures.1) ∙ length_put a.d.now a.at (head a.b a.n) c.requires

pub returns : goal.returns
returns c =
    let a = c.args in
    (omega (arith, c.write_end.ensures.0, c.natural_size-size.ensures, length_head a.b a.n), put_head a.d.now a.at a.b a.n c.requires _ c.natural_size-size.ensures _ c.write_sized.ensures _ c.write_end.ensures.1)
