use mathlib.Core.Path.{refl, sym, ◌∙◌}
use Prim.Native.Nat.{◌+◌, ◌-◌}
use native.Mathlib.Omega.{arith}
use lib.ListN.{get_or, length-set}
use Rattle.octets.specs.Place.{area}
use Rattle.octets.proofs.Turns.{area_over, moved_last, stored_all}
use Rattle.octets.proofs.place.move_up.Goals as goal

pub loop-k-init : goal.loop-k-init
loop-k-init c = (omega arith, refl, refl)

pub loop-k-preserved : goal.loop-k-preserved
loop-k-preserved c =
    let l = c.loop-k in
    let x = c.args in
    (omega arith, length-set l.s (x.to + (l.k - 1)) (get_or l.s (x.from + (l.k - 1)) 0) ∙ l.invariant.1, l.invariant.2 ∙ moved_last l.s x.from x.to l.k (omega arith) (omega arith) (omega arith))

pub shape_of-s : goal.shape_of-s
shape_of-s c = c.loop-k.invariant.1

pub returns : goal.returns
returns c =
    let l = c.loop-k in
    let x = c.args in
    sym (l.invariant.2 ∙ stored_all l.s x.to (area x.from l.k l.s) (area_over l.s x.from l.k (omega arith)))
