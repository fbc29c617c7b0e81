-- `answer` meets its contract. Assumes nothing.
use Rattle.report.proofs.Numbers.{prints}
use Rattle.report.proofs.answer.Goals as goal

pub returns : goal.returns
returns c = prints c.requires c.find-r.ensures c.write.ensures
