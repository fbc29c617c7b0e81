-- `pair_at` meets its contract. Assumes nothing.
use mathlib.Core.List.{[], ◌∷◌}
use native.Mathlib.Omega.{arith}
use Rattle.wallathi.proofs.Told.{past}
use Rattle.wallathi.proofs.telling.pair_at.Goals as goal

pub returns : goal.returns
returns c =
    let x = c.args in
    past [] (x.a ∷ (x.b ∷ [])) x.k x.old (λ _. omega (arith, c.if-k-eq0.false, c.if-k-eq1.false))
