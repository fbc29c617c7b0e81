-- `build` meets its contract: its rows are laid from place 1 on, and the root at place 0 leads to them. Assumes nothing.
use mathlib.Core.Path.{ap, ◌∙◌}
use Prim.Native.Nat.{◌<◌, ◌≤◌}
use native.Mathlib.Omega.{arith}
use borrow.Author.Rules.{rules}
use lib.Dec.{eqb}
use Rattle.octets.specs.Pick.{pick}
use Rattle.radix.specs.Shape.{nodes}
use Rattle.radix.specs.Record.{nodes_of}
use Rattle.keys.specs.Table.{columns, rows_from}
use Rattle.radix.specs.Layout.{laid, blank}
use Rattle.radix.proofs.Growing.{link_small}
use Rattle.radix.proofs.Built.{nodes_most, shape_rows, ready_all, built}
use Rattle.radix.proofs.construction.build.Goals as goal
use Rattle.radix.proofs.construction.build.Goals.{After-link_over}

few : (c : After-link_over) → c.grow-end.result ≤ 256
few c =
    let t = c.args.t in
    let table = columns t.len t.val t.key in
    omega (arith, c.grow-end.ensures.0, ap nodes (shape_rows table t.n c.requires.0), nodes_most (rows_from table 0 t.n) c.requires.0)

pub grow-end-requires : goal.grow-end-requires
unfolding blank
grow-end-requires c =
    let t = c.args.t in
    ready_all (columns t.len t.val t.key) t.n c.requires.0 (search rules)

pub overflow_cast-x : goal.overflow_cast-x
overflow_cast-x c =
    let h : pick (eqb 1 c.grow-end.result) 0 c.grow-end.result < 65536 = link_small 1 c.grow-end.result (few (goal.at.overflow_cast-x c).After-link_over) in
    omega (arith, c.link_over.ensures)

pub returns : goal.returns
returns c =
    let t = c.args.t in
    let table = columns t.len t.val t.key in
    built (rows_from table 0 t.n) _ c.grow-end.result c.link_over.result
    (nodes_of c.grow-end.new.x)
    (shape_rows table t.n c.requires.0) c.grow-end.ensures.0 (c.grow-end.ensures.1 ∙ ap (laid _ 1) c.requires.1) c.link_over.ensures
