-- `zero_by_bytes` meets its contract: the test of what is left is the whole test. Assumes nothing.
use mathlib.Core.Path.{◌≡◌}
use lib.ListN.{drop}
use Rattle.octets.specs.Compare.{all_zero}
use Rattle.octets.proofs.comparison.zero_by_bytes.Given as goal

abbrev pub invariant-loop-i : goal.invariant-loop-i
invariant-loop-i l = all_zero (drop l.i l.s) ≡ all_zero (drop l.at l.s)
