-- `find_consumer` meets its contract, by the laws of the spot. Assumes nothing.
use mathlib.Core.Path.{sym, ◌∙◌}
use mathlib.Core.List.{[]}
use Rattle.groups.specs.Parse.{group_in}
use Rattle.groups.proofs.Rules.{rules}
use Rattle.groups.proofs.Spots.{place_known, place_new}
use Rattle.groups.proofs.reading.find_consumer.Goals as goal

pub returns-in-Known : goal.returns-in-Known
returns-in-Known c =
    let x = c.args in
    sym (place_known x.name.now (group_in x.region.now).consumers _ (sym c.spot_of.ensures ∙ c.in-Known.is))

pub returns-in-New : goal.returns-in-New
returns-in-New c =
    let g = group_in c.args.region.now in
    sym (place_new [] c.args.name.now g.consumers _ (rules g c.requires.rules_kept).rising (sym c.spot_of.ensures ∙ c.in-New.is))
