-- `create` meets its contract, by the laws of its answers. Assumes nothing.
use mathlib.Core.Path.{refl, sym, ◌∙◌}
use Rattle.group_area.proofs.Answers.{create_exists}
use Rattle.group_area.proofs.changing.create.Goals as goal

pub create_at-requires : goal.create_at-requires
create_at-requires c = (c.requires.0, c.requires.1, c.requires.2, sym c.spot_of.ensures ∙ c.in-New.is)

pub returns-in-Known : goal.returns-in-Known
returns-in-Known c = (sym (create_exists c.args.s.now c.requires.0 c.args.name.now _ (sym c.spot_of.ensures ∙ c.in-Known.is)), refl)

pub returns-in-New : goal.returns-in-New
returns-in-New c = c.create_at.ensures
