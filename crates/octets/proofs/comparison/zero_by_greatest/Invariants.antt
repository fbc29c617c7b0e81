-- `zero_by_greatest` meets its contract: all are zero exactly when the greatest so far is and the rest are. Assumes nothing.
use mathlib.Core.Path.{◌≡◌}
use lib.Dec.{eqb}
use lib.ListN.{drop}
use Rattle.octets.specs.Pick.{both}
use Rattle.octets.specs.Compare.{all_zero}
use Rattle.octets.proofs.comparison.zero_by_greatest.Given as goal

abbrev pub invariant-loop-i : goal.invariant-loop-i
invariant-loop-i l = both (eqb l.greatest 0) (all_zero (drop l.i l.s)) ≡ all_zero (drop l.at l.s)
