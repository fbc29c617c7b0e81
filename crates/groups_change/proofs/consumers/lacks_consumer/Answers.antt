-- `lacks_consumer` meets its contract. Assumes nothing.
use mathlib.Core.Path.{sym, ◌∙◌}
use Rattle.groups.specs.Parse.{group_in}
use Rattle.groups.proofs.Laws.{found_name, absent_name}
use Rattle.groups_change.proofs.Changes.{lacks_known, lacks_unknown}
use Rattle.groups_change.proofs.consumers.lacks_consumer.Goals as goal

pub returns-in-Some : goal.returns-in-Some
returns-in-Some c =
    let x = c.args in
    let g = group_in x.region.now in
    sym (lacks_known x.name.now g (found_name x.name.now g.consumers _ (sym c.find_consumer.ensures ∙ c.in-Some.is)).among)

pub returns-in-None : goal.returns-in-None
returns-in-None c =
    let x = c.args in
    let g = group_in x.region.now in
    sym (lacks_unknown x.name.now g c.consumer_count.result c.consumer_count.ensures.0
    (absent_name x.name.now g.consumers (sym c.find_consumer.ensures ∙ c.in-None.is)))
