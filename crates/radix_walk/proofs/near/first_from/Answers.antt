-- `first_from` meets its contract: the first key from where the walk stops. Assumes nothing.
use mathlib.Core.Path.{ap, ◌∙◌}
use Rattle.std.proofs.Common.{Option, option_map}
use Rattle.keys.specs.Entries.{Entry}
use Rattle.keys.specs.Answer.{near_of}
use Rattle.radix_walk.specs.Neighbours.{cut_key}
use Rattle.radix_walk.proofs.near.first_from.Goals as goal

pub returns : goal.returns
returns c = c.least.ensures ∙ ap (λ (o : Option Entry). option_map near_of (cut_key o)) c.stop_above-stop.ensures.least
