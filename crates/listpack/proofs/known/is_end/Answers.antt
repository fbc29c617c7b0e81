-- Assumes nothing.
use Rattle.listpack.proofs.Lying.{end_by_lem}
use Rattle.listpack.proofs.known.is_end.Goals as goal

pub returns : goal.returns
returns c = end_by_lem _ _
