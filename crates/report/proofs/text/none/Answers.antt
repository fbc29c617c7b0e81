-- `none` meets its contract. Assumes nothing.
use Prim.Native.Nat.{◌+◌}
use native.Mathlib.Omega.{arith}
use Rattle.report.specs.Printed.{none_text}
use Rattle.report.proofs.Lines.{one_line}
use Rattle.report.proofs.text.none.Goals as goal

pub returns : goal.returns
returns c =
    let x = c.args in
    one_line x.d.now x.at none_text c.copy_in.new.d (x.at + 5) (omega arith) c.copy_in.ensures (omega arith)
