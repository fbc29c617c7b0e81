-- `is_region` meets its contract, by the law of each answer. Assumes nothing.
use mathlib.Core.Path.{◌≡◌, sym, ap, ◌∙◌}
use mathlib.Core.Bool.{Bool, true}
use Prim.Native.Nat.{◌-◌}
use native.Mathlib.Omega.{arith}
use Rattle.octets.specs.Pick.{both}
use Rattle.groups.specs.Group.{pending_up_to}
use Rattle.groups.specs.Parse.{is_field, group_in}
use Rattle.groups.proofs.Verdicts.{region_unnamed, region_names, region_last}
use Rattle.groups.proofs.judging.is_region.Goals as goal
use Rattle.groups.proofs.judging.is_region.Goals.{Else-not-is_field}

named : (c : Else-not-is_field) → is_field c.args.s.now ≡ true
named c = sym c.is_field.ensures ∙ c.if-not-is_field.false

pub returns-then-not-is_field : goal.returns-then-not-is_field
returns-then-not-is_field c =
    let x = c.args in
    ap (λ (b : Bool). both b (pending_up_to x.last (group_in x.s.now).pending))
    (sym (region_unnamed x.s.now (omega arith) (sym c.is_field.ensures ∙ c.if-not-is_field.true)))

pub returns-then-not-names_pass : goal.returns-then-not-names_pass
returns-then-not-names_pass c =
    let x = c.args in
    ap (λ (b : Bool). both b (pending_up_to x.last (group_in x.s.now).pending))
    (sym (region_names x.s.now (omega arith) (named (goal.at.returns-then-not-names_pass c).Else-not-is_field) (sym c.names_pass.ensures ∙ c.if-not-names_pass.true)))

pub returns : goal.returns
returns c =
    let x = c.args in
    c.entries_pass.ensures
    ∙ ap (λ (b : Bool). both b (pending_up_to x.last (group_in x.s.now).pending))
    (sym (region_last x.s.now (omega arith) (named (goal.at.returns c).Else-not-is_field) (sym c.names_pass.ensures ∙ c.if-not-names_pass.false)))
