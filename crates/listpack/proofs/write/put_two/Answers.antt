-- `listpack::write::put_two` meets its contract. Assumes nothing.
use native.Mathlib.Omega.{arith}
use Rattle.listpack.proofs.Writes.{stored_two}
use Rattle.listpack.proofs.write.put_two.Goals as goal

pub returns : goal.returns
returns c = stored_two _ _ _ _ (omega arith)
