use Rattle.std.proofs.Common.{◌∙◌, ap}
use Rattle.octets.specs.Compare.{is_less}
use Rattle.octets.proofs.Slices.{less_is}
use Rattle.octets.proofs.comparison.comes_before.Goals as goal

pub returns : goal.returns
returns c = c.is_lt.ensures ∙ less_is c.compare.result ∙ ap is_less c.compare.ensures
