use mathlib.Core.Path.{◌≡◌, refl, sym, ap₂, ◌∙◌}
use mathlib.Core.List.{List}
use Prim.Native.Nat.{ℕ, ◌+◌, ◌-◌, ◌≤◌}
use native.Mathlib.Omega.{arith}
use lib.ListN.{length, get_or}
use Rattle.octets.proofs.Laws.{part_area}
use Rattle.group_body.specs.Answer.{names_end}
use Rattle.group_body.proofs.Tested.{ends, names_bad, names_next, names_done}
use Rattle.group_body.proofs.checking.names_end.Goals as goal
use Rattle.group_body.proofs.checking.names_end.Goals.{In_ok-end}

-- the name ends after its length, and within the bytes
end : (c : In_ok-end) → let l = c.loop in c.in_ok-end.end ≡ l.i + 1 + get_or c.args.s.now l.i 0
end c =
    let l = c.loop in
    let s = c.args.s.now in
    (ends l.above.now l.i s c.in_ok-end.end (sym c.name_end.ensures.0 ∙ c.in_ok-end.was)).end

within : (c : In_ok-end) → c.in_ok-end.end ≤ length c.args.s.now
within c = rw c.in_ok-end.was at c.name_end.ensures.1

pub loop-init : goal.loop-init
loop-init c =
    let none : c.args.count - 0 ≡ c.args.count = omega arith in
    rw none (omega arith, refl)

pub returns-in_err-end : goal.returns-in_err-end
returns-in_err-end c =
    let l = c.loop in
    let s = c.args.s.now in
    rw c.from_residual.ensures
    (sym (names_bad l.above.now l.i s (c.args.count - l.counter) (omega arith) (sym c.name_end.ensures.0 ∙ c.in_err-end.was)) ∙ l.invariant.1, tt)

pub slice_bounds-above-count : goal.slice_bounds-above-count
slice_bounds-above-count c = omega (arith, end (goal.at.slice_bounds-above-count c).In_ok-end)

pub slice_bounds-above-start : goal.slice_bounds-above-start
slice_bounds-above-start c = omega (arith, end (goal.at.slice_bounds-above-start c).In_ok-end)

pub loop-preserved : goal.loop-preserved
loop-preserved c =
    let l = c.loop in
    let s = c.args.s.now in
    let n = c.args.count in
    let b : ℕ = c.in_ok-end.end in
    let e : n - (l.counter + 1) ≡ n - l.counter - 1 = omega arith in (
      within (goal.at.loop-preserved c).In_ok-end,
      ap₂ (λ (a : List ℕ) (m : ℕ). names_end a b m s) (part_area (l.i + 1) (b - (l.i + 1)) s) e
          ∙ sym (names_next l.above.now l.i s (n - l.counter) (omega arith) b (sym c.name_end.ensures.0 ∙ c.in_ok-end.was)) ∙ l.invariant.1,
    )

pub returns : goal.returns
returns c =
    let l = c.loop in
    let s = c.args.s.now in
    (sym (names_done l.above.now l.i (c.args.count - l.counter) s (omega arith)) ∙ l.invariant.1, l.invariant.0)
