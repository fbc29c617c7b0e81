-- `table_of` meets its contract. Assumes nothing.
use Rattle.std.proofs.Common.{Option}
use mathlib.Core.Path.{◌≡◌, sym, ap, ◌∙◌, subst}
use mathlib.Core.List.{[]}
use native.Mathlib.Omega.{arith}
use borrow.Author.Rules.{rules}
use Rattle.keys.specs.Table.{tabled, table_of}
use Rattle.radix.specs.Answer.{rows_of, Room, Within}
use Rattle.radix.specs.Gathering.{gathered}
use Rattle.radix.specs.Record.{tree_of}
use Rattle.radix.proofs.Laws.{tree_listed}
use Rattle.radix_bytes.specs.Bytes.{record_from}
use Rattle.radix_rows.proofs.table_of.Goals as goal
use Rattle.radix_rows.proofs.table_of.Goals.{After-gather}

-- what was gathered
made : (c : After-gather) → rows_of c.gather.result c.gather.new.t ≡ gathered [] (tree_of (record_from c.args.s.now)) []
made c = tree_listed (record_from c.args.s.now) c.root_of-root.result c.child_at-first.result _ (tabled c.no_rows-t.result) c.no_rows-t.ensures.0 c.root_of-root.ensures.0 c.child_at-first.ensures.0 c.gather.ensures.0

pub child_at-first-requires : goal.child_at-first-requires
child_at-first-requires c = (c.requires.0, omega (arith, c.requires.1, c.root_of-root.ensures.0))

pub gather-requires : goal.gather-requires
gather-requires c = (
  record { rows = omega (arith, c.no_rows-t.ensures.1); exact = c.no_rows-t.ensures.2 ∙ ap table_of (sym c.no_rows-t.ensures.0) },
  search rules,
)

pub returns-in_err-gather : goal.returns-in_err-gather
returns-in_err-gather c =
    rw c.from_residual.ensures (sym (made (goal.at.returns-in_err-gather c).After-gather) ∙ ap (λ (r : Option (Unit {0})). rows_of r c.gather.new.t) c.in_err-gather.was)

pub returns : goal.returns
returns c =
    let t = c.gather.new.t in
    let room : Room t = subst (λ (r : Option (Unit {0})). Within r t) c.in_ok-gather.was c.gather.ensures.1.0 in
    (sym (made (goal.at.returns c).After-gather) ∙ ap (λ (r : Option (Unit {0})). rows_of r t) c.in_ok-gather.was, (room.rows, room.exact))
