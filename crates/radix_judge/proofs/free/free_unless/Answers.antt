-- `free_unless` meets its contract. Assumes nothing.
use Rattle.radix_bytes.specs.Bytes.{pool_in}
use Rattle.radix_judge.proofs.Frees.{free_marked}
use Rattle.radix_judge.proofs.free.free_unless.Goals as goal

pub returns-then-marks-p-ne0 : goal.returns-then-marks-p-ne0
returns-then-marks-p-ne0 c = let x = c.args in free_marked (pool_in x.s.now) x.marks.now x.p c.if-marks-p-ne0.true

pub returns : goal.returns
returns c = rw c.if-marks-p-ne0.false c.free_at.ensures
