use mathlib.Core.Path.{refl, sym, ap, ◌∙◌}
use Prim.Native.Nat.{ℕ, ◌+◌, ◌-◌, ◌*◌, ◌^◌, ◌<◌}
use native.Mathlib.Omega.{arith}
use lib.Pow.{pow_pos}
use Rattle.octets.specs.Bytes.{be_from}
use Rattle.octets.specs.Place.{area}
use Rattle.octets.proofs.Turns.{fits, grows, below_at, be_start, be_more, be_done}
use Rattle.octets.proofs.number.read_be.Goals as goal
use Rattle.octets.proofs.number.read_be.Goals.{In-loop-i}

room : (c : In-loop-i) → c.loop-i.v < 2 ^ 56
room c = fits c.loop-i.i c.loop-i.v (omega arith) c.loop-i.invariant.2

pub loop-i-init : goal.loop-i-init
loop-i-init c = let x = c.args in (omega arith, be_start x.s.now x.at x.width, pow_pos (8 * 0))

pub overflow_mul-v : goal.overflow_mul-v
overflow_mul-v c = omega (arith, room (goal.at.overflow_mul-v c).In-loop-i)

pub overflow_add-v : goal.overflow_add-v
overflow_add-v c = omega (arith, room (goal.at.overflow_add-v c).In-loop-i)

pub loop-i-preserved : goal.loop-i-preserved
loop-i-preserved c =
    let l = c.loop-i in
    let x = c.args in
    let rest = area (x.at + (l.i + 1)) (x.width - (l.i + 1)) x.s.now in (
      omega arith,
      ap (λ (b : ℕ). be_from (l.v * 256 + b) rest) c.wide.ensures.0 ∙ sym (be_more x.s.now x.at l.i x.width l.v (omega arith) (omega arith)) ∙ l.invariant.1,
      grows l.i (l.i + 1) l.v c.wide.result refl l.invariant.2 c.wide.ensures.1,
    )

pub returns : goal.returns
returns c =
    let l = c.loop-i in
    let x = c.args in
    (sym (be_done x.s.now (x.at + l.i) l.i x.width l.v (omega arith)) ∙ l.invariant.1, below_at l.i x.width l.v (omega arith) l.invariant.2)
