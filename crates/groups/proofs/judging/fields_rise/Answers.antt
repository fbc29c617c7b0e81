use mathlib.Core.Path.{◌≡◌, refl, sym, ap, ap₂, ◌∙◌}
use mathlib.Core.Bool.{true}
use mathlib.Core.List.{List}
use Prim.Native.Nat.{ℕ, ◌+◌, ◌-◌, ◌≤◌}
use native.Mathlib.Omega.{arith}
use lib.ListN.{length, drop, length-drop}
use Rattle.octets.specs.Place.{area}
use Rattle.octets.proofs.Laws.{part_is}
use Rattle.groups.specs.Parse.{name_in, is_field, are_fields}
use Rattle.groups.proofs.Fields.{field_read}
use Rattle.groups.proofs.Turns.{first_byte_lem, name_at, fields_bad, fields_low, fields_next, fields_done}
use Rattle.octets.specs.Compare.{comes_before}
use Rattle.groups.proofs.judging.fields_rise.Goals as goal
use Rattle.groups.proofs.judging.fields_rise.Goals.{After-comes_before, After-wide-n, Else-not-is_field}

-- the field has passed, so its name lies within
passed : (c : Else-not-is_field) → is_field (drop c.loop.i c.args.s.now) ≡ true
passed c = sym c.is_field.ensures ∙ c.if-not-is_field.false

within : (c : After-wide-n) → c.wide-n.result ≤ 16
within c =
    let the_passed : is_field (drop c.loop.i c.args.s.now) ≡ true = sym c.is_field.ensures ∙ c.if-not-is_field.false in let l = c.loop in
    let s = c.args.s.now in
    let h : 17 ≤ length (drop l.i s) = omega (arith, length-drop l.i s, l.invariant.0) in
    omega (arith, c.wide-n.ensures.0, first_byte_lem l.i s, (field_read (drop l.i s) (the_passed) h).few_bytes)

-- the name before, and this one
compared : (c : After-comes_before) → let l = c.loop in
    let s = c.args.s.now in
    c.comes_before.result ≡ comes_before l.above.now (name_in (drop l.i s))
compared c =
    let l = c.loop in
    let s = c.args.s.now in
    let w = c.wide-n in
    c.comes_before.ensures
    ∙ ap (comes_before l.above.now) (part_is (l.i + 1) w.result s ∙ sym (name_at l.i w.result s w.ensures.0))

pub loop-init : goal.loop-init
loop-init c =
    let none : c.args.count - 0 ≡ c.args.count = omega arith in
    rw none (omega arith, refl)

pub returns-then-not-is_field : goal.returns-then-not-is_field
returns-then-not-is_field c =
    let l = c.loop in
    let x = c.args in
    sym (fields_bad l.above.now (c.args.count - l.counter) l.i x.s.now (omega arith) (sym c.is_field.ensures ∙ c.if-not-is_field.true)) ∙ l.invariant.1

pub wide-n-requires : goal.wide-n-requires
wide-n-requires c = search

pub overflow_add-name-in-loop-2 : goal.overflow_add-name-in-loop-2
overflow_add-name-in-loop-2 c = omega (arith, within (goal.at.overflow_add-name-in-loop-2 c).After-wide-n)

pub slice_bounds-name-start : goal.slice_bounds-name-start
slice_bounds-name-start c = omega (arith, within (goal.at.slice_bounds-name-start c).After-wide-n)

pub slice_bounds-name-end : goal.slice_bounds-name-end
slice_bounds-name-end c = omega (arith, within (goal.at.slice_bounds-name-end c).After-wide-n)

pub comes_before-requires : goal.comes_before-requires
comes_before-requires c = search

pub returns-then-not-comes_before : goal.returns-then-not-comes_before
returns-then-not-comes_before c =
    let l = c.loop in
    let x = c.args in
    sym (fields_low l.above.now (c.args.count - l.counter) l.i x.s.now (omega arith)
    (passed (goal.at.returns-then-not-comes_before c).Else-not-is_field) (sym (compared (goal.at.returns-then-not-comes_before c).After-comes_before) ∙ c.if-not-comes_before.true))
    ∙ l.invariant.1

pub loop-preserved : goal.loop-preserved
loop-preserved c =
    let l = c.loop in
    let x = c.args in
    let w = c.wide-n in
    let n = name_at l.i w.result x.s.now w.ensures.0 in
    let e : x.count - (l.counter + 1) ≡ x.count - l.counter - 1 = omega arith in (
      omega arith,
      ap₂ (λ (a : List ℕ) (m : ℕ). are_fields a m (drop (l.i + 17) x.s.now)) (part_is (l.i + 1) w.result x.s.now) e
          ∙ sym (fields_next l.above.now (c.args.count - l.counter) l.i x.s.now (omega arith) (area (l.i + 1) w.result x.s.now) n
          (passed (goal.at.loop-preserved c).Else-not-is_field)
          (ap (comes_before l.above.now) (sym n) ∙ sym (compared (goal.at.loop-preserved c).After-comes_before) ∙ c.if-not-comes_before.false))
          ∙ l.invariant.1,
    )

pub returns : goal.returns
returns c =
    let l = c.loop in
    let x = c.args in
    sym (fields_done l.above.now (c.args.count - l.counter) (drop l.i x.s.now) (omega arith)) ∙ l.invariant.1
