-- Assumes nothing.
use mathlib.Core.Path.{◌∙◌, ap}
use native.Mathlib.Omega.{arith}
use Rattle.octets.specs.Place.{area}
use Rattle.octets.proofs.Laws.{part_is, length_area}
use Rattle.listpack.specs.Element.{element_size}
use Rattle.resp_read.proofs.Sizes.{string_size_lem}
use Rattle.resp_read.proofs.entry.string_size.Goals as goal

pub returns : goal.returns
returns c =
    let x = c.args in
    string_size_lem (area x.from x.len x.s.now) (omega (arith, length_area x.from x.len x.s.now (omega arith))) _ (c.element_size.ensures ∙ ap element_size (part_is x.from x.len x.s.now))
