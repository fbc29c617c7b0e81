use mathlib.Core.Path.{refl, sym, ◌∙◌}
use Prim.Native.Nat.{◌+◌, ◌-◌, ◌%◌, ◌/◌}
use native.Mathlib.Omega.{arith}
use lib.ListN.{length-set}
use Rattle.octets.specs.Bytes.{be}
use Rattle.octets.proofs.Digits.{length_be}
use Rattle.octets.proofs.Turns.{be_back, be_over, stored_last, stored_all}
use Rattle.octets.proofs.number.write_be.Goals as goal

pub loop-k-init : goal.loop-k-init
loop-k-init c = (omega arith, refl, refl)

pub loop-k-preserved : goal.loop-k-preserved
loop-k-preserved c =
    let l = c.loop-k in
    let x = c.args in (
      omega arith,
      length-set l.d (x.at + (l.k - 1)) (l.x % 256) ∙ l.invariant.1,
      l.invariant.2
          ∙ stored_last l.d x.at (l.k - 1) (l.x % 256) (be (l.k - 1) (l.x / 256)) (be l.k l.x) (omega arith) (length_be (l.k - 1) (l.x / 256)) (be_back l.k l.x (omega arith)),
    )

pub shape_of-d : goal.shape_of-d
shape_of-d c = c.loop-k.invariant.1

pub returns : goal.returns
returns c =
    let l = c.loop-k in
    sym (l.invariant.2 ∙ stored_all l.d c.args.at (be l.k l.x) (be_over l.k l.x (omega arith)))
