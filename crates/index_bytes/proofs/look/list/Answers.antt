-- `list` meets its contract. Assumes nothing.
use Rattle.index_bytes.proofs.Steps.{listed_in}
use Rattle.index_bytes.proofs.look.list.Goals as goal

pub returns : goal.returns
returns c = listed_in c.args.bytes.now c.list.result c.list.ensures
