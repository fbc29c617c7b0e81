use mathlib.Core.Path.{ap, ◌∙◌}
use Prim.Native.Nat.{ℕ, ◌+◌, ◌-◌, ◌*◌, ◌^◌, ◌<◌}
use native.Mathlib.Omega.{arith}
use lib.Pow.{pow_pos}
use Rattle.octets.proofs.Turns.{fits, grows, below_at, le_start, le_more, le_done}
use Rattle.octets.proofs.number.read_le.Goals as goal
use Rattle.octets.proofs.number.read_le.Goals.{In-loop-k}

room : (c : In-loop-k) → c.loop-k.v < 2 ^ 56
room c =
    let l = c.loop-k in
    fits (c.args.width - l.k) l.v (omega arith) l.invariant.2

pub loop-k-init : goal.loop-k-init
loop-k-init c = let x = c.args in (omega arith, le_start x.s.now (x.at + x.width) x.width, pow_pos (8 * (x.width - x.width)))

pub overflow_mul-v : goal.overflow_mul-v
overflow_mul-v c = omega (arith, room (goal.at.overflow_mul-v c).In-loop-k)

pub overflow_add-v : goal.overflow_add-v
overflow_add-v c = omega (arith, room (goal.at.overflow_add-v c).In-loop-k)

pub loop-k-preserved : goal.loop-k-preserved
loop-k-preserved c =
    let l = c.loop-k in
    let x = c.args in (
      omega arith,
      ap (λ (b : ℕ). l.v * 256 + b) c.wide.ensures.0 ∙ le_more x.s.now x.at l.k x.width l.v (omega arith) (omega arith) (omega arith) l.invariant.1,
      grows (x.width - l.k) (x.width - (l.k - 1)) l.v c.wide.result (omega arith) l.invariant.2 c.wide.ensures.1,
    )

pub returns : goal.returns
returns c =
    let l = c.loop-k in
    let x = c.args in
    (l.invariant.1 ∙ le_done x.s.now x.at l.k x.width (omega arith), below_at (x.width - l.k) x.width l.v (omega arith) l.invariant.2)
