-- `without_row` meets its contract. Assumes nothing.
use mathlib.Core.Path.{sym, ap, ◌∙◌}
use Prim.Native.Nat.{◌+◌}
use native.Mathlib.Omega.{arith}
use Rattle.keys.specs.Table.{columns, table_of}
use Rattle.keys.proofs.Rows.{rows_without}
use Rattle.keys.proofs.row.without_row.Goals as goal

pub copy_rows-requires : goal.copy_rows-requires
copy_rows-requires c = (omega arith, (omega arith, (omega (arith, c.no_rows.ensures.1), c.no_rows.ensures.2 ∙ ap table_of (sym c.no_rows.ensures.0))))

pub copy_rows-requires-2 : goal.copy_rows-requires-2
copy_rows-requires-2 c = (omega arith, (omega arith, (omega (arith, c.copy_rows.ensures.1, c.no_rows.ensures.1), c.copy_rows.ensures.2)))

pub returns : goal.returns
returns c =
    let x = c.args in
    let t = x.t in (
      rows_without (columns t.len t.val t.key) t.n x.r (x.r + 1) (omega arith) (omega arith)
          c.no_rows.ensures.0 c.copy_rows.ensures.0 c.copy_rows-2.ensures.0,
      c.copy_rows-2.ensures.2,
    )
