-- `last_at_or_below_sound` meets its contract. Assumes nothing.
use mathlib.Core.List.{List}
use Rattle.std.proofs.Common.{Option}
use mathlib.Core.Path.{sym, ap, ◌∙◌, subst}
use Rattle.keys.specs.Entries.{Entry}
use Rattle.keys.specs.Operation.{last_at_or_below, reply_in}
use Rattle.keys.specs.Answer.{neighbour_of}
use Rattle.keys.specs.Listing.{IsSound}
use Rattle.index_bytes.specs.Held.{entries_in_lem}
use Rattle.index_bytes.proofs.look.last_at_or_below_sound.Goals as goal

pub last_at_or_below_sound-requires : goal.last_at_or_below_sound-requires
last_at_or_below_sound-requires c = (c.requires.0, subst IsSound (entries_in_lem c.args.bytes.now) c.requires.1)

pub returns : goal.returns
returns c = let a = c.args in c.last_at_or_below_sound.ensures ∙ ap (λ (o : Option (List Entry)). neighbour_of (reply_in (last_at_or_below a.key.now) o)) (sym (entries_in_lem a.bytes.now))
