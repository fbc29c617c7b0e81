-- `listpack::form::narrow` meets its contract. Assumes nothing.
use Prim.Native.Nat.{◌-◌, ◌*◌, ◌^◌, ◌≤◌}
use mathlib.Core.Path.{sym}
use native.Mathlib.Omega.{arith}
use Rattle.listpack.proofs.Width.{narrow_low, narrow_high, fits_by}
use Rattle.listpack.proofs.form.narrow.Goals as goal

pub returns-then-p-half : goal.returns-then-p-half
returns-then-p-half c = sym (narrow_low _ _ (omega arith))

pub overflow_sub-result-2 : goal.overflow_sub-result-2
overflow_sub-result-2 c =
    let a = c.args in
    fits_by a.half (omega arith) ((2 ^ 63 - a.half) * 2 ≤ a.p) a.p c.requires.2 (λ k. omega arith) (λ k l. omega arith)

pub returns : goal.returns
returns c = let a = c.args in omega (arith, narrow_high a.half a.p (omega arith))
