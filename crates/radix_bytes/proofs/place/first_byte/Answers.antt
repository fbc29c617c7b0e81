-- `first_byte_lem` meets its contract. Assumes nothing.
use mathlib.Core.Path.{◌∙◌}
use native.Mathlib.Omega.{arith}
use Rattle.radix_bytes.proofs.Places.{first_none, first_some}
use Rattle.radix_bytes.proofs.place.first_byte.Goals as goal

pub returns-then-label_len-eq0 : goal.returns-then-label_len-eq0
returns-then-label_len-eq0 c = let x = c.args in (first_none x.s.now x.p c.label_len.result c.label_len.ensures.0 c.if-label_len-eq0.true, omega arith)

pub returns : goal.returns
returns c =
    let x = c.args in
    (c.wide_place.ensures.0 ∙ first_some x.s.now x.p (omega arith) c.label_len.result (omega arith) c.label_len.ensures.0 c.if-label_len-eq0.false, c.wide_place.ensures.1)
