-- `entries_pass` meets its contract, by the law of each answer. Assumes nothing.
use mathlib.Core.Path.{◌≡◌, sym, ◌∙◌}
use Prim.Native.Nat.{◌-◌}
use native.Mathlib.Omega.{arith}
use Rattle.groups.specs.Parse.{delivered_in}
use Rattle.groups.proofs.Verdicts.{entries_many, entries_refused, entries_rest}
use Rattle.groups.proofs.judging.entries_pass.Goals as goal
use Rattle.groups.proofs.judging.entries_pass.Goals.{After-read_id}

delivered : (c : After-read_id) → c.read_id.result ≡ delivered_in c.args.s.now
unfolding delivered_in
delivered c = c.read_id.ensures

pub returns-then-n-gt-MOST_PENDING : goal.returns-then-n-gt-MOST_PENDING
returns-then-n-gt-MOST_PENDING c =
    let x = c.args in
    let n = c.read_le-n in
    sym (entries_many x.last x.s.now n.result n.ensures.0 (omega arith))

pub returns-then-not-entries_rise : goal.returns-then-not-entries_rise
returns-then-not-entries_rise c =
    let x = c.args in
    let n = c.read_le-n in
    let w = c.wide-consumers in
    let m = c.lesser-most in
    sym (entries_refused x.last x.s.now n.result n.ensures.0 w.result w.ensures.0 c.read_id.result (delivered (goal.at.returns-then-not-entries_rise c).After-read_id) m.result m.ensures
    (omega arith) (sym c.entries_rise.ensures ∙ c.if-not-entries_rise.true))

pub returns : goal.returns
returns c =
    let x = c.args in
    let n = c.read_le-n in
    let w = c.wide-consumers in
    let m = c.lesser-most in
    c.all_zero_from.ensures
    ∙ sym (entries_rest x.last x.s.now n.result n.ensures.0 w.result w.ensures.0 c.read_id.result (delivered (goal.at.returns c).After-read_id) m.result m.ensures
    (omega arith) (sym c.entries_rise.ensures ∙ c.if-not-entries_rise.false))
