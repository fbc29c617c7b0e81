-- `listpack::read::read_wide` meets its contract. Assumes nothing.
use mathlib.Core.Path.{sym, ap, ◌∙◌}
use native.Mathlib.Omega.{arith}
use Rattle.listpack.proofs.Leaves.{wide_no, wide_none, wide_some}
use Prim.Native.Nat.{◌+◌}
use Rattle.listpack.specs.Read.{as_integer}
use Rattle.listpack.proofs.read.read_wide.Goals as goal

pub returns-then-w-eq0 : goal.returns-then-w-eq0
returns-then-w-eq0 c = sym (wide_no _ _ (omega arith))

pub returns-then-s-w : goal.returns-then-s-w
returns-then-s-w c = sym (wide_none _ _ (omega arith) (omega arith))

pub returns : goal.returns
returns c =
    let w = c.args.w in
    let v = c.wide_value-v in
    c.as_integer.ensures ∙ ap (as_integer v.result (1 + w)) c.integer_stands.ensures ∙ sym (wide_some _ _ v.result v.ensures (omega arith) (omega arith))
