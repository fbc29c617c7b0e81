-- `find` meets its contract, by the laws of the spot. Assumes nothing.
use mathlib.Core.Path.{sym, ◌∙◌}
use mathlib.Core.List.{[]}
use Rattle.groups.specs.Area.{names_of}
use Rattle.group_area.specs.Answer.{groups_in}
use Rattle.group_area.proofs.Answers.{rules_of}
use Rattle.groups.proofs.Laws.{place_known, place_new}
use Rattle.group_area.proofs.finding.find.Goals as goal

pub returns-in-Known : goal.returns-in-Known
returns-in-Known c =
    let x = c.args in
    sym (place_known x.name.now (names_of (groups_in x.s.now)) _ (sym c.spot_of.ensures ∙ c.in-Known.is))

pub returns-in-New : goal.returns-in-New
returns-in-New c = sym (place_new [] c.args.name.now (names_of (groups_in c.args.s.now)) _ (rules_of c.args.s.now c.requires).rising (sym c.spot_of.ensures ∙ c.in-New.is))
