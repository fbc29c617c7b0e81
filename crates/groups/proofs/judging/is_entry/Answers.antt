-- `is_entry` meets its contract, by the law of each answer. Assumes nothing.
use mathlib.Core.Path.{sym, ap, ◌∙◌}
use Prim.Native.Nat.{◌+◌, ◌≤◌, ◌<◌, ◌-◌}
use native.Mathlib.Omega.{arith}
use lib.ListN.{get_or}
use Rattle.octets.specs.Bytes.{le_value}
use Rattle.octets.specs.Place.{area}
use Rattle.id.specs.declared.Id.{Id}
use Rattle.id.specs.Id.{below, at_most}
use Rattle.groups.proofs.Turns.{entry_lost, entry_never, entry_low, entry_last}
use Rattle.groups.proofs.judging.is_entry.Goals as goal
use Rattle.groups.proofs.judging.is_entry.Goals.{Else-consumers-place, Else-read_le-lt1}

place : (c : Else-consumers-place) → let x = c.args in get_or x.s.now (x.at + 16) 0 < x.consumers
place c = omega (arith, c.wide-place.ensures.0, c.if-consumers-place.false)

once : (c : Else-read_le-lt1) → let x = c.args in 1 ≤ le_value (area (x.at + 25) 2 x.s.now)
once c = omega (arith, c.read_le.ensures.0, c.if-read_le-lt1.false)

pub returns-then-consumers-place : goal.returns-then-consumers-place
returns-then-consumers-place c =
    let x = c.args in
    sym (entry_lost x.at x.consumers x.above x.most x.s.now (omega (arith, c.wide-place.ensures.0, c.if-consumers-place.true)))

pub returns-then-read_le-lt1 : goal.returns-then-read_le-lt1
returns-then-read_le-lt1 c =
    let x = c.args in
    sym (entry_never x.at x.consumers x.above x.most x.s.now (place (goal.at.returns-then-read_le-lt1 c).Else-consumers-place) (omega (arith, c.read_le.ensures.0, c.if-read_le-lt1.true)))

pub returns-then-not-is_below : goal.returns-then-not-is_below
returns-then-not-is_below c =
    let x = c.args in
    let e = ap (below x.above) c.read_id-id.ensures in
    sym (entry_low x.at x.consumers x.above x.most x.s.now (place (goal.at.returns-then-not-is_below c).Else-consumers-place) (once (goal.at.returns-then-not-is_below c).Else-read_le-lt1)
    (sym e ∙ sym c.is_below.ensures ∙ c.if-not-is_below.true))

pub returns : goal.returns
returns c =
    let x = c.args in
    let e = c.read_id-id.ensures in
    c.is_at_most.ensures
    ∙ ap (λ (i : Id). at_most i x.most) e
    ∙ sym (entry_last x.at x.consumers x.above x.most x.s.now (place (goal.at.returns c).Else-consumers-place) (once (goal.at.returns c).Else-read_le-lt1)
    (sym (ap (below x.above) e) ∙ sym c.is_below.ensures ∙ c.if-not-is_below.false))
