-- `last_from` meets its contract: the last key from where the walk stops. Assumes nothing.
use mathlib.Core.Path.{ap, ◌∙◌}
use Rattle.std.proofs.Common.{Option, option_map}
use Rattle.keys.specs.Entries.{Entry}
use Rattle.keys.specs.Answer.{near_of}
use Rattle.radix_walk.specs.Neighbours.{cut_key}
use Rattle.radix_walk.proofs.near.last_from.Goals as goal

pub returns : goal.returns
returns c = c.greatest.ensures ∙ ap (λ (o : Option Entry). option_map near_of (cut_key o)) c.stop_below-stop.ensures.greatest
