-- `splice` meets its contract by the law of its steps. Assumes nothing.
use mathlib.Core.Path.{◌≡◌, refl, sym, ap, ◌∙◌}
use Prim.Native.Nat.{ℕ, ◌-◌}
use mathlib.Core.List.{List}
use native.Mathlib.Omega.{arith}
use Rattle.octets.specs.Bytes.{zeros}
use Rattle.octets.specs.Place.{put, spliced_end}
use Rattle.octets.proofs.Splices.{filled_in, spliced_steps, spliced_grown}
use Rattle.octets.proofs.place.splice.Goals as goal
use Rattle.octets.proofs.place.splice.Goals.{After-copy_in}

-- after the rest is moved and the new bytes are copied in
filled : (c : After-copy_in) → let x = c.args in c.copy_in.new.d ≡ filled_in x.s.now x.used x.at x.gone x.new.now
filled c =
    let x = c.args in
    c.copy_in.ensures ∙ ap (λ (t : List ℕ). put t x.at x.new.now) c.move_within.ensures

pub returns-then-end-used : goal.returns-then-end-used
returns-then-end-used c =
    let x = c.args in
    let e : ℕ = spliced_end x.used x.at x.gone x.new.now in (
      refl,
      c.zero.ensures
          ∙ ap (λ (t : List ℕ). put t e (zeros (x.used - e))) (filled (goal.at.returns-then-end-used c).After-copy_in)
          ∙ sym (spliced_steps x.s.now x.used x.at x.gone x.new.now (omega arith) (omega arith) (omega arith)),
    )

pub returns-else-end-used : goal.returns-else-end-used
returns-else-end-used c =
    let x = c.args in (
      refl,
      filled (goal.at.returns-else-end-used c).After-copy_in
          ∙ sym (spliced_grown x.s.now x.used x.at x.gone x.new.now (omega arith) (omega arith) (omega arith) (omega arith)),
    )
