-- `entry_of` meets its contract. Assumes nothing.
use mathlib.Core.Path.{◌≡◌, ap, ◌∙◌}
use Prim.Native.Nat.{ℕ, ◌-◌}
use native.Mathlib.Omega.{arith}
use lib.ListN.{take}
use Rattle.octets.specs.Bytes.{zeros}
use Rattle.octets.specs.Place.{put}
use Rattle.radix_walk.proofs.Paths.{near_entry}
use Rattle.radix_walk.proofs.near.entry_of.Goals as goal

pub returns : goal.returns
returns c =
    let x = c.args in
    let e : x.n - 0 ≡ x.n = omega arith in
    near_entry x.path.now x.n x.value _ (omega arith) (omega arith) (c.copy_in.ensures ∙ ap (λ (j : ℕ). put (zeros 16) 0 (take j x.path.now)) e)
