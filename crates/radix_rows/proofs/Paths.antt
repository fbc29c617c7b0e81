-- The path to a node, and a link that leads nowhere. Assumes nothing.
use mathlib.Core.Bool.{false}
use mathlib.Core.Path.{◌≡◌, sym, ap, ◌∙◌}
use mathlib.Core.List.{List}
use Prim.Native.Nat.{ℕ, ◌+◌}
use native.Mathlib.Omega.{arith}
use lib.ListN.{take}
use lib.Seq.{take-take}
use lib.Dec.{ltb}
use Rattle.octets.proofs.Laws.{both_false}
use Rattle.radix.specs.Record.{leads_on}

pub take_less : (d m : ℕ) (p q : List ℕ) → take (d + m) p ≡ take (d + m) q → take d p ≡ take d q
take_less d m p q e = sym (take-take d (d + m) p (omega arith)) ∙ ap (take d) e ∙ take-take d (d + m) q (omega arith)

pub leads_none : (most link : ℕ) → link ≡ 0 → leads_on most link ≡ false
leads_none most link e = ap (leads_on most) e ∙ both_false (ltb 0 most)
