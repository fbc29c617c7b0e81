-- `name_field` meets its contract. Assumes nothing.
use mathlib.Core.Path.{◌∙◌}
use Prim.Native.Nat.{◌-◌}
use native.Mathlib.Omega.{arith}
use Rattle.groups_change.proofs.Rows.{field_made}
use Rattle.groups_change.proofs.pieces.name_field.Goals as goal

pub returns : goal.returns
returns c = c.copy_in.ensures ∙ field_made c.args.name.now (omega arith)
