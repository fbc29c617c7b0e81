-- `listpack::form::extend` meets its contract. Assumes nothing.
use mathlib.Core.Path.{sym}
use native.Mathlib.Omega.{arith}
use Rattle.listpack.proofs.Width.{extend_low, extend_high}
use Rattle.listpack.proofs.form.extend.Goals as goal

pub returns-then-v-half : goal.returns-then-v-half
returns-then-v-half c = sym (extend_low _ _ (omega arith))

pub returns : goal.returns
returns c = let a = c.args in omega (arith, extend_high a.half a.v (omega arith))
