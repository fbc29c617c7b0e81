-- `moved_place` meets its contract. Assumes nothing.
use mathlib.Core.Path.{sym}
use Rattle.groups_change.proofs.Rows.{place_stays, place_moves}
use Rattle.groups_change.proofs.pieces.moved_place.Goals as goal

pub returns-then-place-from : goal.returns-then-place-from
returns-then-place-from c =
    let x = c.args in
    sym (place_stays x.from x.add x.sub c.wide-place.result x.x c.wide-place.ensures.0 c.if-place-from.true)

pub returns : goal.returns
returns c =
    let x = c.args in
    sym (place_moves x.from x.add x.sub c.wide-place.result x.x c.wide-place.ensures.0 c.if-place-from.false)
