-- `listpack::form::half_of` meets its contract. Assumes nothing.
use mathlib.Core.Path.{◌∙◌}
use native.Mathlib.Omega.{arith}
use lib.Pow.{shl_exact}
use Prim.Native.Nat.{◌*◌, ◌-◌}
use native.Mathlib.Nat.{one-mul}
use Rattle.listpack.proofs.form.half_of.Goals as goal

pub returns : goal.returns
returns c = let k = 8 * c.args.w - 1 in shl_exact 1 k 64 (omega arith) (omega arith) ∙ one-mul _
