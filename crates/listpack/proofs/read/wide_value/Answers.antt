-- `listpack::read::wide_value` meets its contract. Assumes nothing.
use mathlib.Core.Path.{ap₂, ◌∙◌}
use native.Mathlib.Omega.{arith}
use Rattle.listpack.proofs.Width.{half_small, half_twice}
use Rattle.listpack.specs.Width.{extend}
use Rattle.listpack.proofs.read.wide_value.Goals as goal

pub extend-requires : goal.extend-requires
extend-requires c =
    let w = c.args.w in
    omega (arith, half_small w (omega arith) (omega arith), half_twice w (omega arith) (omega arith))

pub returns : goal.returns
returns c = c.extend.ensures ∙ ap₂ extend c.half_of.ensures c.read_le.ensures.0
