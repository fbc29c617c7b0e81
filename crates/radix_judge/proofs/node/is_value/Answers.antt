-- `is_value` meets its contract. Assumes nothing.
use mathlib.Core.Path.{sym, ◌∙◌}
use Prim.Native.Nat.{◌^◌, ◌<◌, ◌≤◌}
use lib.ListN.{get_or}
use Rattle.radix_bytes.specs.Bytes.{pool_in}
use native.Mathlib.Omega.{arith}
use borrow.Author.Tests.{lt-ltb, le-leb}
use Rattle.radix_judge.proofs.node.is_value.Goals as goal

pub returns : goal.returns
returns c = let x = c.args in let v = c.value_at.result in let h : v ≤ 4294967295 = omega (arith, c.value_at.ensures.1) in let k : get_or (pool_in x.s.now).val x.p 0 < 2 ^ 32 = omega (arith, c.value_at.ensures.0, c.value_at.ensures.1) in le-leb v 4294967295 h ∙ sym (lt-ltb (get_or (pool_in x.s.now).val x.p 0) (2 ^ 32) k)
