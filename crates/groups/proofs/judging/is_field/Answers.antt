-- `is_field` meets its contract, by the law of each answer. Assumes nothing.
use mathlib.Core.Path.{sym, ◌∙◌}
use Prim.Native.Nat.{◌-◌}
use native.Mathlib.Omega.{arith}
use Rattle.groups.proofs.Turns.{field_empty, field_long, field_rest}
use Rattle.groups.proofs.judging.is_field.Goals as goal

pub returns-then-n-lt1 : goal.returns-then-n-lt1
returns-then-n-lt1 c =
    let x = c.args in
    let w = c.wide-n in
    sym (field_empty x.at w.result x.s.now w.ensures.0 (omega arith))

pub returns-then-n-gt-LONGEST_NAME : goal.returns-then-n-gt-LONGEST_NAME
returns-then-n-gt-LONGEST_NAME c =
    let x = c.args in
    let w = c.wide-n in
    sym (field_long x.at w.result x.s.now w.ensures.0 (omega arith) (omega arith))

pub returns : goal.returns
returns c =
    let x = c.args in
    let w = c.wide-n in
    c.all_zero_from.ensures ∙ sym (field_rest x.at w.result x.s.now w.ensures.0 (omega arith) (omega arith))
