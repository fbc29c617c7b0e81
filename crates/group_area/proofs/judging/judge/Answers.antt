use mathlib.Core.Path.{◌≡◌, sym, ap, ap₂, ◌∙◌}
use mathlib.Core.Bool.{true}
use mathlib.Core.List.{List}
use Prim.Native.Nat.{ℕ, ◌+◌, ◌-◌, ◌≤◌}
use native.Mathlib.Omega.{arith}
use lib.ListN.{length, take, drop, get_or}
use Rattle.octets.specs.Bytes.{Bytes}
use Rattle.octets.proofs.Laws.{part_is, length_area}
use Rattle.groups.proofs.Laws.{name_at}
use Rattle.group_area.proofs.Judgement.{sound_region, judged_from, judged_size, judged_whole, turn_free, turn_bad, turn_low, turn_next, begins, judged_done}
use Rattle.group_area.proofs.judging.judge.Goals as goal
use Rattle.group_area.proofs.judging.judge.Goals.{Else-not-is_region, Else-s-at-eq0}

-- the region is used
used : (c : Else-s-at-eq0) → get_or c.args.s.now c.loop.at 0 ≡ 0 → ⊥
used c = omega (arith, c.if-s-at-eq0.false)

-- and has passed, so it begins with a name
passed : (c : Else-not-is_region) → let x = c.args in
    let l = c.loop in
    sound_region x.last (take (l.at + 7220 - l.at) (drop l.at x.s.now)) ≡ true
passed c = sym c.is_region.ensures ∙ c.if-not-is_region.false

named : (c : Else-not-is_region) → get_or c.args.s.now c.loop.at 0 ≤ 16
named c =
    let the_used : get_or c.args.s.now c.loop.at 0 ≡ 0 → ⊥ = omega (arith, c.if-s-at-eq0.false) in let x = c.args in
    let l = c.loop in
    begins x.last l.above.now (8 - l.counter) l.at x.s.now (omega arith) (the_used) (passed c)

pub returns-then-s-ne-AREA_BYTES : goal.returns-then-s-ne-AREA_BYTES
returns-then-s-ne-AREA_BYTES c = let x = c.args in sym (judged_size x.last x.s.now (omega arith))

pub loop-init : goal.loop-init
loop-init c =
    let x = c.args in
    let bytes : Bytes x.s.now = record { byte = λ i. (c.type_inv.s i).fits } in
    let l : length x.s.now ≡ 57760 = omega arith in
    (omega arith, l, judged_whole x.last x.s.now bytes l)

pub all_zero_from-requires : goal.all_zero_from-requires
all_zero_from-requires c = search

pub returns-then-s-at-eq0 : goal.returns-then-s-at-eq0
returns-then-s-at-eq0 c =
    let x = c.args in
    let l = c.loop in
    c.all_zero_from.ensures
    ∙ sym (turn_free x.last l.above.now (8 - l.counter) l.at x.s.now (omega arith) (omega (arith, c.if-s-at-eq0.true)))
    ∙ l.invariant.2

pub is_region-requires : goal.is_region-requires
is_region-requires c =
    let x = c.args in
    let l = c.loop in
    ap length (part_is l.at 7220 x.s.now) ∙ length_area l.at 7220 x.s.now (omega (arith, l.invariant.0, l.invariant.1))

pub returns-then-not-is_region : goal.returns-then-not-is_region
returns-then-not-is_region c =
    let x = c.args in
    let l = c.loop in
    sym (turn_bad x.last l.above.now (8 - l.counter) l.at x.s.now (omega arith) (used (goal.at.returns-then-not-is_region c).Else-s-at-eq0) (sym c.is_region.ensures ∙ c.if-not-is_region.true))
    ∙ l.invariant.2

pub is_above-requires : goal.is_above-requires
is_above-requires c = omega (arith, named (goal.at.is_above-requires c).Else-not-is_region)

pub returns-then-not-is_above : goal.returns-then-not-is_above
returns-then-not-is_above c =
    let x = c.args in
    let l = c.loop in
    sym (turn_low x.last l.above.now (8 - l.counter) l.at x.s.now (omega arith) (used (goal.at.returns-then-not-is_above c).Else-s-at-eq0) (passed (goal.at.returns-then-not-is_above c).Else-not-is_region)
    (sym c.is_above.ensures ∙ c.if-not-is_above.true))
    ∙ l.invariant.2

pub wide-size-requires : goal.wide-size-requires
wide-size-requires c = search

pub loop-preserved : goal.loop-preserved
loop-preserved c =
    let x = c.args in
    let l = c.loop in
    let w = c.wide-size in
    let e : 8 - (l.counter + 1) ≡ 8 - l.counter - 1 = omega arith in (
      omega arith,
      l.invariant.1,
      ap₂ (λ (n : List ℕ) (m : ℕ). judged_from x.last n m (drop (l.at + 7220) x.s.now)) (part_is (l.at + 1) w.result x.s.now ∙ sym (name_at l.at w.result x.s.now w.ensures.0)) e
          ∙ sym (turn_next x.last l.above.now (8 - l.counter) l.at x.s.now (omega arith) (used (goal.at.loop-preserved c).Else-s-at-eq0) (passed (goal.at.loop-preserved c).Else-not-is_region)
          (sym c.is_above.ensures ∙ c.if-not-is_above.false))
          ∙ l.invariant.2,
    )

pub returns : goal.returns
returns c =
    let l = c.loop in
    let x = c.args in
    sym (judged_done x.last l.above.now (8 - l.counter) (drop l.at x.s.now) (omega arith)) ∙ l.invariant.2
