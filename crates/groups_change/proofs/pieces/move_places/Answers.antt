use mathlib.Core.Path.{◌≡◌, refl, sym, ap, ◌∙◌}
use mathlib.Core.List.{◌++◌}
use Prim.Native.Nat.{ℕ, ◌+◌, ◌-◌}
use native.Mathlib.Omega.{arith}
use lib.ListN.{take, drop, set, length-set}
use Rattle.groups_change.specs.Places.{places_moved}
use Rattle.groups_change.proofs.Moves.{moved_next, moved_done}
use Rattle.groups_change.proofs.pieces.move_places.Goals as goal

pub loop-init : goal.loop-init
loop-init c =
    let none : c.args.count - 0 ≡ c.args.count = omega arith in
    rw none (omega arith, refl, refl)

pub moved_place-requires : goal.moved_place-requires
moved_place-requires c = (omega arith, omega arith)

pub loop-preserved : goal.loop-preserved
loop-preserved c =
    let x = c.args in
    let l = c.loop in
    let v = c.moved_place.result in
    let t = set l.region (l.at + 16) v in
    let e = length-set l.region (l.at + 16) v in
    let f : x.count - (l.counter + 1) ≡ x.count - l.counter - 1 = omega arith in (
      omega arith,
      e ∙ l.invariant.1,
      ap (λ (m : ℕ). take (l.at + 27) t ++ places_moved x.from x.add x.sub m (drop (l.at + 27) t)) f
          ∙ moved_next x.from x.add x.sub (c.args.count - l.counter) l.at l.region v (omega arith) (omega arith) c.moved_place.ensures ∙ l.invariant.2,
    )

pub shape_of-region : goal.shape_of-region
shape_of-region c = c.loop.invariant.1

pub returns : goal.returns
returns c =
    let x = c.args in
    let l = c.loop in
    sym (moved_done x.from x.add x.sub (c.args.count - l.counter) l.at l.region (omega arith)) ∙ l.invariant.2
