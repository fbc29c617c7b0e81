-- Assumes nothing.
use Rattle.std.proofs.Common.{sym, ap, ◌∙◌}
use Rattle.decimal.specs.Integer.{pattern_of}
use Rattle.listpack.specs.Known.{string_at}
use Rattle.node_sample.specs.Sample.{sample_of}
use Rattle.node_sample.proofs.value.sample_at.Goals as goal

pub returns-in-Some : goal.returns-in-Some
returns-in-Some c =
    let x = c.args in
    c.sample_of.ensures ∙ ap sample_of (sym (sym c.known_stored.ensures ∙ c.in-Some.is))

pub returns-in-None : goal.returns-in-None
returns-in-None c =
    let x = c.args in
    ap sample_of (sym (sym c.known_stored.ensures ∙ c.in-None.is))
