-- `is_row` meets its contract. Assumes nothing.
use mathlib.Core.Path.{◌≡◌, ap, ◌∙◌}
use Prim.Native.Nat.{ℕ, ◌+◌, ◌*◌, ◌-◌}
use native.Mathlib.Omega.{arith}
use borrow.Author.Rules.{rules}
use borrow.Author.Tests.{lt-ltb, le-ltb}
use lib.ListN.{length}
use Rattle.octets.specs.Place.{area}
use Rattle.octets.proofs.Laws.{part_area}
use Rattle.octets.specs.Compare.{same}
use Rattle.keys.proofs.row.is_row.Goals as goal
use Rattle.keys.proofs.row.is_row.Goals.{Start}

keys : (s : Start) → length s.args.t.key ≡ 1024
keys s = search rules

pub returns-then-t-i : goal.returns-then-t-i
returns-then-t-i c = rw (le-ltb _ _ c.if-t-i.true)

pub slice_bounds-equal-end : goal.slice_bounds-equal-end
slice_bounds-equal-end c = omega (arith, keys (goal.at.slice_bounds-equal-end c).Start)

pub returns : goal.returns
returns c =
    let x = c.args in
    let t = x.t in
    let m = c.row_len-m.result in
    let e : 16 * x.i + m - 16 * x.i ≡ m = omega arith in
    rw (lt-ltb _ _ c.if-t-i.false)
    (c.equal.ensures ∙ ap (same x.k.now) (part_area (16 * x.i) (16 * x.i + m - 16 * x.i) t.key ∙ ap (λ (k : ℕ). area (16 * x.i) k t.key) (e ∙ c.row_len-m.ensures.0)))
