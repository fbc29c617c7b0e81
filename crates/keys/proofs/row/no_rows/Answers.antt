-- `no_rows` meets its contract. Assumes nothing.
use mathlib.Core.Path.{refl}
use Rattle.keys.specs.Table.{rows_from, columns_of, length_column, value_column, key_column}
use Rattle.keys.proofs.row.no_rows.Goals as goal

pub returns : goal.returns
unfolding rows_from columns_of length_column value_column key_column
returns c = (refl, refl, refl)
