-- `tell_id` meets its contract. Assumes nothing.
use mathlib.Core.List.{[], ◌∷◌}
use Rattle.wallathi.specs.Telling.{numbers_by}
use Rattle.wallathi.proofs.Told.{numbers, number, no_more}
use Rattle.wallathi.proofs.telling.tell_id.Goals as goal

pub returns : goal.returns
returns c =
    let x = c.args in
    record { code_is = c.code_of.ensures; values_are = numbers (numbers_by x.r) (x.ms.now ∷ (x.seq.now ∷ [])) (number c.number_at.ensures (number c.number_at-2.ensures no_more)) }
