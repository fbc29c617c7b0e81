-- `entry_at` meets its contract. Assumes nothing.
use mathlib.Core.Path.{◌∙◌}
use mathlib.Core.List.{[], ◌∷◌}
use native.Mathlib.Omega.{arith}
use Rattle.wallathi.specs.Export.{bit}
use Rattle.wallathi.proofs.Told.{past}
use Rattle.wallathi.proofs.telling.entry_at.Goals as goal

pub returns : goal.returns
returns c =
    let x = c.args in
    c.pair_at.ensures
    ∙ past (x.id.ms ∷ (x.id.seq ∷ [])) (x.time ∷ (x.count ∷ (bit x.lives ∷ []))) x.k x.old
    (λ h. omega (arith, c.if-k-eq2.false, c.if-k-eq3.false, c.if-k-eq4.false))
