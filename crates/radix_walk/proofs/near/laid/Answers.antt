-- `laid` meets its contract. Assumes nothing.
use mathlib.Core.Path.{◌≡◌, ap, ◌∙◌}
use mathlib.Core.List.{◌++◌}
use Prim.Native.Nat.{ℕ, ◌+◌, ◌-◌}
use native.Mathlib.Omega.{arith}
use lib.ListN.{take}
use Rattle.octets.specs.Place.{area, put}
use Rattle.octets.proofs.Laws.{length_area, part_area}
use Rattle.radix.proofs.Laws.{laid_on}
use Rattle.radix_walk.proofs.Paths.{laid_cut}
use Rattle.radix_walk.proofs.near.laid.Goals as goal

pub returns : goal.returns
returns c =
    let x = c.args in
    let m = c.min-fits.result in
    let e : x.at + m - x.at ≡ m = omega arith in (
      omega arith,
      laid_on x.path.now x.n m c.copy_in.new.d (area x.at m x.s.now) (omega arith) (length_area x.at m x.s.now (omega arith))
          (c.copy_in.ensures ∙ ap (put x.path.now x.n) (part_area x.at (x.at + m - x.at) x.s.now ∙ ap (λ (j : ℕ). area x.at j x.s.now) e))
          ∙ ap (λ (j : ℕ). take x.n x.path.now ++ area x.at j x.s.now) c.min-fits.ensures
          ∙ laid_cut x.path.now x.s.now x.n x.at x.m (omega arith) (omega arith),
    )
