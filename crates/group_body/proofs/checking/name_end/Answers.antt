-- `name_end` meets its contract, by the law of each answer. Assumes nothing.
use mathlib.Core.Path.{◌≡◌, refl, sym, ap, ◌∙◌}
use Prim.Native.Nat.{◌+◌, ◌-◌}
use native.Mathlib.Omega.{arith}
use lib.ListN.{drop, get_or, get_or-eq_default}
use Rattle.octets.specs.Compare.{comes_before}
use Rattle.groups.specs.Parse.{name_in}
use Rattle.group_body.proofs.Tested.{end_empty, end_long, end_short, end_low, end_name}
use Rattle.octets.proofs.Laws.{part_is}
use Rattle.groups.proofs.Laws.{name_at}
use Rattle.group_body.proofs.checking.name_end.Goals as goal
use Rattle.group_body.proofs.checking.name_end.Goals.{After-comes_before}

compared : (c : After-comes_before) → let x = c.args in
    c.comes_before.result ≡ comes_before x.above.now (name_in (drop x.at x.s.now))
compared c =
    let x = c.args in
    let w = c.wide-n in
    c.comes_before.ensures
    ∙ ap (comes_before x.above.now) (part_is (x.at + 1) w.result x.s.now ∙ sym (name_at x.at w.result x.s.now w.ensures.0))

pub returns-then-s-at : goal.returns-then-s-at
returns-then-s-at c =
    let x = c.args in
    let z : get_or x.s.now x.at 0 ≡ 0 = get_or-eq_default x.s.now 0 c.if-s-at.true in
    (sym (end_empty x.above.now x.at (get_or x.s.now x.at 0) x.s.now refl (omega arith)), tt)

pub returns-then-n-lt1 : goal.returns-then-n-lt1
returns-then-n-lt1 c =
    let x = c.args in
    let w = c.wide-n in
    (sym (end_empty x.above.now x.at w.result x.s.now w.ensures.0 (omega arith)), tt)

pub returns-then-n-gt-LONGEST_NAME : goal.returns-then-n-gt-LONGEST_NAME
returns-then-n-gt-LONGEST_NAME c =
    let x = c.args in
    let w = c.wide-n in
    (sym (end_long x.above.now x.at w.result x.s.now w.ensures.0 (omega arith) (omega arith)), tt)

pub returns-then-s-at-2 : goal.returns-then-s-at-2
returns-then-s-at-2 c =
    let x = c.args in
    let w = c.wide-n in
    (sym (end_short x.above.now x.at w.result x.s.now w.ensures.0 (omega arith) (omega arith) (omega arith)), tt)

pub returns-then-not-comes_before : goal.returns-then-not-comes_before
returns-then-not-comes_before c =
    let x = c.args in
    let w = c.wide-n in (
      sym (end_low x.above.now x.at w.result x.s.now w.ensures.0 (omega arith) (omega arith) (omega arith)
          (sym (compared (goal.at.returns-then-not-comes_before c).After-comes_before) ∙ c.if-not-comes_before.true)),
      tt,
    )

pub returns : goal.returns
returns c =
    let x = c.args in
    let w = c.wide-n in (
      sym (end_name x.above.now x.at w.result x.s.now w.ensures.0 (omega arith) (omega arith) (omega arith)
          (sym (compared (goal.at.returns c).After-comes_before) ∙ c.if-not-comes_before.false)),
      omega arith,
    )
