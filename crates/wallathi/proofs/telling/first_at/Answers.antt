-- `first_at` meets its contract. Assumes nothing.
use mathlib.Core.List.{[], ◌∷◌}
use native.Mathlib.Omega.{arith}
use Rattle.wallathi.proofs.Told.{past}
use Rattle.wallathi.proofs.telling.first_at.Goals as goal

pub returns : goal.returns
returns c = let x = c.args in past [] (x.n ∷ []) x.k x.old (λ _. omega (arith, c.if-k-eq0.false))
