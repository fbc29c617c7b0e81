-- `number` meets its contract: a text has at most 20 bytes. Assumes nothing.
use mathlib.Core.Path.{ap}
use Prim.Native.Nat.{ℕ, ◌+◌}
use native.Mathlib.Omega.{arith}
use Rattle.decimal.specs.Text.{text_of}
use Rattle.decimal.proofs.Laws.{text_length}
use Rattle.report.proofs.Lines.{ended_line}
use Rattle.report.proofs.text.number.Goals as goal

pub overflow_add-end : goal.overflow_add-end
overflow_add-end c = omega (arith, text_length c.args.p)

pub write_text-requires : goal.write_text-requires
write_text-requires c = omega (arith, text_length c.args.p)

pub bounds-d-end : goal.bounds-d-end
bounds-d-end c = omega (arith, text_length c.args.p, c.write_text.auto.d)

pub overflow_add-result : goal.overflow_add-result
overflow_add-result c = omega (arith, text_length c.args.p)

pub returns : goal.returns
returns c =
    let x = c.args in
    ended_line x.d.now x.at (text_of x.p) c.write_text.new.d (x.at + c.text_size.result) c.requires (text_length x.p).1
    c.write_text.ensures (ap (λ (n : ℕ). x.at + n) c.text_size.ensures)
