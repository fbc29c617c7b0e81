-- `note_delivered` meets its contract: one put after the other. Assumes nothing.
use mathlib.Core.Path.{ap, ◌∙◌}
use mathlib.Core.List.{List}
use Prim.Native.Nat.{ℕ, ◌-◌}
use Rattle.octets.specs.Place.{put}
use Rattle.id.specs.Bytes.{id_bytes}
use Rattle.groups_change.proofs.entries.note_delivered.Goals as goal

pub returns : goal.returns
returns c = c.write_id.ensures ∙ ap (λ (l : List ℕ). put l 17 (id_bytes c.args.id)) c.write_le.ensures
