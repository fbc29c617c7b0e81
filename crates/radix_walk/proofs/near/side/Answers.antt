-- `side` meets its contract. Assumes nothing.
use mathlib.Core.Path.{◌≡◌, ap, ap₂, ◌∙◌}
use Prim.Native.Nat.{ℕ, ◌+◌, ◌-◌}
use native.Mathlib.Omega.{arith}
use lib.ListN.{take, drop}
use Rattle.octets.specs.Compare.{order_of}
use Rattle.octets.proofs.Laws.{part_area}
use Rattle.radix_walk.proofs.Paths.{part_short}
use Rattle.radix_walk.proofs.near.side.Goals as goal

pub returns : goal.returns
returns c =
    let x = c.args in
    let m = c.min-m.result in
    let e : x.at + x.n - x.at ≡ x.n = omega arith in
    let f : x.i + m - x.i ≡ m = omega arith in
    c.compare.ensures
    ∙ ap₂ order_of (ap (λ (j : ℕ). take j (drop x.at x.s.now)) e ∙ part_area x.at x.n x.s.now)
    (ap (λ (j : ℕ). take j (drop x.i x.k.now)) (f ∙ c.min-m.ensures) ∙ part_short x.i x.n x.k.now)
