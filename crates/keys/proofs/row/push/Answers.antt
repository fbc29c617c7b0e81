-- `push` meets its contract. Assumes nothing.
use mathlib.Core.Path.{◌≡◌, refl, ap, ap₂, ◌∙◌}
use mathlib.Core.List.{List}
use Prim.Native.Nat.{ℕ, ◌+◌}
use native.Mathlib.Numerals.{add-one}
use native.Mathlib.Omega.{arith}
use borrow.Author.Rules.{rules}
use lib.ListN.{length, set}
use Rattle.keys.specs.Table.{columns, rows_from, table_by}
use Rattle.keys.proofs.Rows.{row_added}
use Rattle.keys.proofs.row.push.Goals as goal
use Rattle.keys.proofs.row.push.Goals.{Start}

lens : (s : Start) → length s.args.t.now.len ≡ 64
lens s = search rules

vals : (s : Start) → length s.args.t.now.val ≡ 64
vals s = search rules

keys : (s : Start) → length s.args.t.now.key ≡ 1024
keys s = search rules

pub copy_in-requires : goal.copy_in-requires
copy_in-requires c = omega (arith, keys (goal.at.copy_in-requires c).Start)

pub returns : goal.returns
returns c =
    let x = c.args in
    let t = x.t.now in (
      ap₂ (λ (m : ℕ) (l : List ℕ). rows_from (columns (set t.len t.n (length x.k.now)) (set t.val t.n x.v) l) 0 m) (add-one t.n) c.copy_in.ensures
          ∙ row_added t.len t.val t.key t.n (length x.k.now) x.v x.k.now (lens (goal.at.returns c).Start) (vals (goal.at.returns c).Start) (keys (goal.at.returns c).Start) (omega arith) refl (omega arith),
      ap (λ (l : List ℕ). table_by (t.n + 1) (columns (set t.len t.n (length x.k.now)) (set t.val t.n x.v) l)) c.copy_in.ensures,
    )
