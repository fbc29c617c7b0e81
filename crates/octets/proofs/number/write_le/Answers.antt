use mathlib.Core.Path.{refl, sym, ◌∙◌}
use Prim.Native.Nat.{ℕ, ◌+◌, ◌-◌, ◌%◌, ◌/◌}
use native.Mathlib.Omega.{arith}
use lib.ListN.{length-set}
use Rattle.octets.specs.Bytes.{le}
use Rattle.octets.proofs.Turns.{le_next, le_over, stored_none, stored_first, stored_all}
use Rattle.octets.proofs.number.write_le.Goals as goal

pub loop-i-init : goal.loop-i-init
loop-i-init c = let x = c.args in (omega arith, refl, stored_none x.d.now x.at x.width (λ (n : ℕ). le n x.v))

pub loop-i-preserved : goal.loop-i-preserved
loop-i-preserved c =
    let l = c.loop-i in
    let x = c.args in (
      omega arith,
      length-set l.d (x.at + l.i) (l.x % 256) ∙ l.invariant.1,
      l.invariant.2
          ∙ stored_first l.d x.at l.i (l.x % 256) (le (x.width - (l.i + 1)) (l.x / 256)) (le (x.width - l.i) l.x) (omega arith) (le_next l.i x.width l.x (omega arith)),
    )

pub shape_of-d : goal.shape_of-d
shape_of-d c = c.loop-i.invariant.1

pub returns : goal.returns
returns c =
    let l = c.loop-i in
    let x = c.args in
    sym (l.invariant.2 ∙ stored_all l.d (x.at + l.i) (le (x.width - l.i) l.x) (le_over l.i x.width l.x (omega arith)))
