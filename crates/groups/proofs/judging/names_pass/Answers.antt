-- `names_pass` meets its contract, by the law of each answer. Assumes nothing.
use mathlib.Core.Path.{sym, ◌∙◌}
use Prim.Native.Nat.{◌-◌}
use native.Mathlib.Omega.{arith}
use Rattle.groups.proofs.Verdicts.{names_many, names_bad, names_rest}
use Rattle.groups.proofs.judging.names_pass.Goals as goal

pub returns-then-n-gt-MOST_CONSUMERS : goal.returns-then-n-gt-MOST_CONSUMERS
returns-then-n-gt-MOST_CONSUMERS c =
    let s = c.args.s.now in
    let w = c.wide-n in
    sym (names_many s w.result w.ensures.0 (omega arith))

pub returns-then-not-fields_rise : goal.returns-then-not-fields_rise
returns-then-not-fields_rise c =
    let s = c.args.s.now in
    let w = c.wide-n in
    sym (names_bad s w.result w.ensures.0 (omega arith) (sym c.fields_rise.ensures ∙ c.if-not-fields_rise.true))

pub returns : goal.returns
returns c =
    let s = c.args.s.now in
    let w = c.wide-n in
    c.all_zero_from.ensures
    ∙ sym (names_rest s w.result w.ensures.0 (omega arith) (sym c.fields_rise.ensures ∙ c.if-not-fields_rise.false))
