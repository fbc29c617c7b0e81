use mathlib.Core.Path.{◌≡◌, refl, sym, ap, ◌∙◌}
use Prim.Native.Nat.{ℕ, ◌+◌}
use native.Mathlib.Omega.{arith}
use lib.ListN.{drop, get_or, length-set, drop_of_length-le}
use Rattle.octets.specs.Place.{put}
use Rattle.octets.proofs.Areas.{cut}
use Rattle.octets.proofs.Turns.{stored_first, stored_all}
use Rattle.octets.proofs.place.copy_in.Goals as goal

pub loop-i-init : goal.loop-i-init
loop-i-init c =
    let x = c.args in
    let p : x.at ≡ x.at + 0 = omega arith in
    (refl, ap (λ (i : ℕ). put x.d.now i x.s.now) p)

pub loop-i-preserved : goal.loop-i-preserved
loop-i-preserved c =
    let l = c.loop-i in
    let x = c.args in
    let s = x.s.now in (
      length-set l.d (x.at + l.i) (get_or s l.i 0) ∙ l.invariant.0,
      l.invariant.1
          ∙ stored_first l.d x.at l.i (get_or s l.i 0) (drop (l.i + 1) s) (drop l.i s) (omega arith) (cut s l.i (omega arith)),
    )

pub shape_of-d : goal.shape_of-d
shape_of-d c = c.loop-i.invariant.0

pub returns : goal.returns
returns c =
    let l = c.loop-i in
    let x = c.args in
    sym (l.invariant.1 ∙ stored_all l.d (x.at + l.i) (drop l.i x.s.now) (drop_of_length-le x.s.now {i = l.i} (omega arith)))
