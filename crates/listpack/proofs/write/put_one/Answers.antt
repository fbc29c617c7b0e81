-- `listpack::write::put_one` meets its contract. Assumes nothing.
use native.Mathlib.Omega.{arith}
use Rattle.octets.proofs.Laws.{set_put}
use Rattle.listpack.proofs.write.put_one.Goals as goal

pub returns : goal.returns
returns c = set_put _ _ _ (omega arith)
