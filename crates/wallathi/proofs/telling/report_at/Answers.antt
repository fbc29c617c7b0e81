-- `report_at` meets its contract. Assumes nothing.
use mathlib.Core.Path.{◌∙◌}
use mathlib.Core.List.{[], ◌∷◌}
use native.Mathlib.Omega.{arith}
use Rattle.wallathi.proofs.Told.{past}
use Rattle.wallathi.proofs.telling.report_at.Goals as goal

pub returns : goal.returns
returns c =
    let x = c.args in
    c.counts_at.ensures
    ∙ past (x.lacking ∷ (x.other ∷ (x.integers ∷ (x.sum ∷ [])))) (x.smallest ∷ (x.largest ∷ [])) x.k x.old
    (λ h. omega (arith, c.if-k-eq4.false, c.if-k-eq5.false))
