-- `tell` meets its contract. Assumes nothing.
use mathlib.Core.List.{[]}
use Rattle.wallathi.specs.Telling.{numbers_by}
use Rattle.wallathi.proofs.Told.{numbers, no_more}
use Rattle.wallathi.proofs.telling.tell.Goals as goal

pub returns : goal.returns
returns c = record { code_is = c.code_of.ensures; values_are = numbers (numbers_by c.args.r) [] no_more }
