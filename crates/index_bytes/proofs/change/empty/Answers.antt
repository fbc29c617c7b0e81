-- `empty` meets its contract. Assumes nothing.
use mathlib.Core.Path.{ap, ◌∙◌}
use Rattle.std.proofs.Common.{Some}
use Rattle.keys.proofs.Laws.{none_map}
use Rattle.index_bytes.specs.Held.{record_bytes}
use Rattle.index_bytes.proofs.change.empty.Goals as goal

pub build-requires : goal.build-requires
build-requires c = (none_map _ c.no_rows.ensures.0, c.requires)

pub returns : goal.returns
returns c = (c.build.ensures.0 ∙ ap record_bytes c.no_rows.ensures.0, c.build.ensures.1 ∙ ap Some c.no_rows.ensures.0)
