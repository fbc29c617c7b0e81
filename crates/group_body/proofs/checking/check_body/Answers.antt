-- `check_body` meets its contract, by the law of each answer. Assumes nothing.
use mathlib.Core.Path.{◌≡◌, sym, ap, ◌∙◌}
use mathlib.Core.List.{[]}
use Prim.Native.Nat.{ℕ, ◌≤◌, ◌-◌}
use native.Mathlib.Omega.{arith}
use lib.ListN.{length, drop}
use Rattle.id.specs.declared.Id.{Id}
use Rattle.group_body.specs.Answer.{name_end, entries_end}
use Rattle.group_body.proofs.Tested.{body_unnamed, body_short, body_many, body_names, body_entries}
use Rattle.group_body.proofs.checking.check_body.Goals as goal
use Rattle.group_body.proofs.checking.check_body.Goals.{After-name_end, In-Some}

-- the name of the group, above the empty one
named : (c : After-name_end) → name_end [] 0 c.args.s.now ≡ c.name_end.result
named c = sym c.name_end.ensures.0

within : (c : In-Some) → c.in-Some.a ≤ length c.args.s.now
within c = rw c.in-Some.is at c.name_end.ensures.1

pub returns-in_default : goal.returns-in_default
returns-in_default c = sym (body_unnamed c.args.s.now (named (goal.at.returns-in_default c).After-name_end ∙ c.in_default.is))

pub returns-then-s-a-lt17 : goal.returns-then-s-a-lt17
returns-then-s-a-lt17 c =
    sym (body_short c.args.s.now c.in-Some.a (named (goal.at.returns-then-s-a-lt17 c).After-name_end ∙ c.in-Some.is)
    (within (goal.at.returns-then-s-a-lt17 c).In-Some) (omega arith))

pub returns-then-k-gt-MOST_CONSUMERS : goal.returns-then-k-gt-MOST_CONSUMERS
returns-then-k-gt-MOST_CONSUMERS c =
    let w = c.wide-k in
    sym (body_many c.args.s.now c.in-Some.a (named (goal.at.returns-then-k-gt-MOST_CONSUMERS c).After-name_end ∙ c.in-Some.is) (omega arith) w.result w.ensures.0 (omega arith))

pub returns-in_default-names_end : goal.returns-in_default-names_end
returns-in_default-names_end c =
    let w = c.wide-k in
    sym (body_names c.args.s.now c.in-Some.a (named (goal.at.returns-in_default-names_end c).After-name_end ∙ c.in-Some.is) (omega arith) w.result w.ensures.0 (omega arith)
    c.names_end.result (sym c.names_end.ensures.0) c.in_default-names_end.is)

pub returns : goal.returns
returns c =
    let s = c.args.s.now in
    let w = c.wide-k in
    let b : ℕ = c.in-Some-names_end.b in
    c.entries_end.ensures
    ∙ ap (λ (i : Id). entries_end w.result i (drop b s)) c.read_id.ensures
    ∙ sym (body_entries s c.in-Some.a (named (goal.at.returns c).After-name_end ∙ c.in-Some.is) (omega arith) w.result w.ensures.0 (omega arith) c.names_end.result (sym c.names_end.ensures.0) b c.in-Some-names_end.is)
