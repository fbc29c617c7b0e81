use Rattle.std.proofs.Common.{◌∙◌}
use Rattle.octets.proofs.Slices.{same_is}
use Rattle.octets.proofs.comparison.equal.Goals as goal

pub returns : goal.returns
returns c = c.eq.ensures ∙ same_is c.args.a.now c.args.b.now
