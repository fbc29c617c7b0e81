use mathlib.Core.Path.{refl, sym, ◌∙◌}
use Prim.Native.Nat.{◌+◌, ◌-◌}
use native.Mathlib.Omega.{arith}
use lib.ListN.{get_or, length-set}
use Rattle.octets.specs.Place.{area}
use Rattle.octets.proofs.Turns.{area_over, moved_none, moved_first, stored_all}
use Rattle.octets.proofs.place.move_down.Goals as goal

pub loop-i-init : goal.loop-i-init
loop-i-init c = let x = c.args in (refl, moved_none x.s.now x.from x.to x.n)

pub loop-i-preserved : goal.loop-i-preserved
loop-i-preserved c =
    let l = c.loop-i in
    let x = c.args in
    (length-set l.s (x.to + l.i) (get_or l.s (x.from + l.i) 0) ∙ l.invariant.0, l.invariant.1 ∙ moved_first l.s x.from x.to l.i x.n (omega arith) (omega arith) (omega arith))

pub shape_of-s : goal.shape_of-s
shape_of-s c = c.loop-i.invariant.0

pub returns : goal.returns
returns c =
    let l = c.loop-i in
    let x = c.args in
    sym (l.invariant.1 ∙ stored_all l.s (x.to + l.i) (area (x.from + l.i) (x.n - l.i) l.s) (area_over l.s (x.from + l.i) (x.n - l.i) (omega arith)))
