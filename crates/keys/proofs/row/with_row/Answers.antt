-- `with_row` meets its contract. Assumes nothing.
use mathlib.Core.Path.{◌≡◌, sym, ap, ◌∙◌}
use native.Mathlib.Omega.{arith}
use Rattle.keys.specs.Table.{columns, tabled, table_of}
use Rattle.keys.proofs.Rows.{rows_with}
use Rattle.keys.proofs.Tables.{table_more}
use Rattle.keys.proofs.row.with_row.Goals as goal
use Rattle.keys.proofs.row.with_row.Goals.{After-append, After-no_rows}

empty : (c : After-no_rows) → c.no_rows.result ≡ table_of (tabled c.no_rows.result)
empty c = c.no_rows.ensures.2 ∙ ap table_of (sym c.no_rows.ensures.0)

full : (c : After-append) → c.append.result ≡ table_of (tabled c.append.result)
full c =
    let x = c.args in
    let t = c.copy_rows in
    c.append.ensures.2
    ∙ table_more t.result x.k.now x.v t.ensures.2 (omega (arith, t.ensures.1, c.no_rows.ensures.1)) (omega arith)
    ∙ ap table_of (sym c.append.ensures.0)

pub copy_rows-requires : goal.copy_rows-requires
copy_rows-requires c = (omega arith, (omega arith, (omega (arith, c.no_rows.ensures.1), empty (goal.at.copy_rows-requires c).After-no_rows)))

pub append-requires : goal.append-requires
append-requires c = omega (arith, c.copy_rows.ensures.1, c.no_rows.ensures.1)

pub copy_rows-requires-2 : goal.copy_rows-requires-2
copy_rows-requires-2 c = (omega arith, (omega arith, (omega (arith, c.append.ensures.1, c.copy_rows.ensures.1, c.no_rows.ensures.1), full (goal.at.copy_rows-requires-2 c).After-append)))

pub returns : goal.returns
returns c =
    let x = c.args in
    let t = x.t in (
      rows_with (columns t.len t.val t.key) t.n x.r x.s (omega arith) (omega arith) _
          c.no_rows.ensures.0 c.copy_rows.ensures.0 c.append.ensures.0 c.copy_rows-2.ensures.0,
      c.copy_rows-2.ensures.2,
    )
