-- `tell_report` meets its contract. Assumes nothing.
use mathlib.Core.List.{[], ◌∷◌}
use Rattle.wallathi.specs.Telling.{numbers_by}
use Rattle.wallathi.proofs.Told.{numbers, number, no_more}
use Rattle.wallathi.proofs.telling.tell_report.Goals as goal

pub returns : goal.returns
returns c =
    let x = c.args in
    record {
      code_is = c.code_of.ensures;
      values_are =
          numbers (numbers_by x.r)
          (x.lacking.now ∷ (x.other.now ∷ (x.integers.now ∷ (x.sum.now ∷ (x.smallest.now ∷ (x.largest.now ∷ []))))))
          (number c.number_at.ensures
          (number c.number_at-2.ensures
          (number c.number_at-3.ensures
          (number c.number_at-4.ensures
          (number c.number_at-5.ensures
          (number c.number_at-6.ensures no_more))))));
    }
