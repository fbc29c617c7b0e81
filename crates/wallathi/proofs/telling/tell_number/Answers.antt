-- `tell_number` meets its contract. Assumes nothing.
use mathlib.Core.List.{[], ◌∷◌}
use Rattle.wallathi.specs.Telling.{numbers_by}
use Rattle.wallathi.proofs.Told.{numbers, number, no_more}
use Rattle.wallathi.proofs.telling.tell_number.Goals as goal

pub returns : goal.returns
returns c =
    let x = c.args in
    record { code_is = c.code_of.ensures; values_are = numbers (numbers_by x.r) (x.number.now ∷ []) (number c.number_at.ensures no_more) }
