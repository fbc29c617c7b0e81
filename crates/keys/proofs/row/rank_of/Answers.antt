use mathlib.Core.Path.{◌≡◌, ap, ◌∙◌}
use Prim.Native.Nat.{ℕ, ◌+◌, ◌*◌, ◌-◌}
use native.Mathlib.Nat.{zero-add, sub-zero}
use native.Mathlib.Omega.{arith}
use Rattle.octets.specs.Place.{area}
use Rattle.octets.proofs.Laws.{part_area}
use Rattle.octets.specs.Compare.{comes_before}
use Rattle.keys.specs.Entries.{length_of}
use Rattle.keys.specs.Table.{columns}
use Rattle.keys.proofs.Rows.{rank_stop, rank_more, rank_end}
use Rattle.keys.proofs.row.rank_of.Goals as goal
use Rattle.keys.proofs.row.rank_of.Goals.{After-comes_before}

before : (c : After-comes_before) → let t = c.args.t in
    c.comes_before.result ≡ comes_before (area (16 * c.loop-i.i) (length_of t.len c.loop-i.i) t.key) c.args.k.now
before c =
    let t = c.args.t in
    let i = c.loop-i.i in
    let m = c.row_len-m.result in
    let e : 16 * i + m - 16 * i ≡ m = omega arith in
    c.comes_before.ensures
    ∙ ap (λ l. comes_before l c.args.k.now) (part_area (16 * i) (16 * i + m - 16 * i) t.key ∙ ap (λ (k : ℕ). area (16 * i) k t.key) (e ∙ c.row_len-m.ensures.0))

pub loop-i-init : goal.loop-i-init
loop-i-init c = rw (zero-add, sub-zero)

pub returns-then-not-comes_before : goal.returns-then-not-comes_before
returns-then-not-comes_before c =
    let t = c.args.t in
    let l = c.loop-i in
    rank_stop (columns t.len t.val t.key) _ l.i t.n c.comes_before.result (omega arith) (before (goal.at.returns-then-not-comes_before c).After-comes_before) (c.if-not-comes_before.true) ∙ l.invariant

pub loop-i-preserved : goal.loop-i-preserved
loop-i-preserved c =
    let t = c.args.t in
    let l = c.loop-i in
    rank_more (columns t.len t.val t.key) _ l.i t.n c.comes_before.result (omega arith) (before (goal.at.loop-i-preserved c).After-comes_before) (c.if-not-comes_before.false) ∙ l.invariant

pub returns : goal.returns
returns c =
    let t = c.args.t in
    let i = c.loop-i.i in
    let e : t.n ≡ i = omega arith in
    e ∙ rank_end (columns t.len t.val t.key) _ i (t.n - i) (omega arith) ∙ c.loop-i.invariant
