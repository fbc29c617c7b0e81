-- `lesser` meets its contract. Assumes nothing.
use mathlib.Core.Path.{sym, ap, ◌∙◌}
use mathlib.Core.Bool.{Bool}
use Rattle.octets.specs.Pick.{pick}
use Rattle.groups.proofs.judging.lesser.Goals as goal

pub returns-then-is_at_most : goal.returns-then-is_at_most
returns-then-is_at_most c = let x = c.args in ap (λ (t : Bool). pick t x.a x.b) (sym c.if-is_at_most.true ∙ c.is_at_most.ensures)

pub returns : goal.returns
returns c = let x = c.args in ap (λ (t : Bool). pick t x.a x.b) (sym c.if-is_at_most.false ∙ c.is_at_most.ensures)
