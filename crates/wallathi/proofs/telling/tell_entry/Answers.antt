-- `tell_entry` meets its contract. Assumes nothing.
use mathlib.Core.List.{[], ◌∷◌}
use Rattle.wallathi.specs.Telling.{numbers_by}
use Rattle.wallathi.proofs.Told.{numbers, number, no_more}
use Rattle.wallathi.proofs.telling.tell_entry.Goals as goal

pub returns : goal.returns
returns c =
    let x = c.args in
    record {
      code_is = c.code_of.ensures;
      values_are =
          numbers (numbers_by x.r)
          (x.ms.now ∷ (x.seq.now ∷ (x.time.now ∷ (x.count.now ∷ (x.lives.now ∷ [])))))
          (number c.number_at.ensures
          (number c.number_at-2.ensures
          (number c.number_at-3.ensures
          (number c.number_at-4.ensures
          (number c.number_at-5.ensures no_more)))));
    }
