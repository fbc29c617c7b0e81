-- `next_pending` meets its contract: an unknown consumer has no entry, and a known one is at the place found. Assumes nothing.
use mathlib.Core.Path.{sym, ap, ◌∙◌}
use mathlib.Core.List.{List}
use Prim.Native.Nat.{ℕ, ◌-◌}
use Rattle.groups.specs.Parse.{group_in}
use Rattle.groups.specs.Step.{next_pending}
use Rattle.groups.specs.Answer.{entry_given}
use Rattle.groups.proofs.Rules.{rules}
use Rattle.groups.proofs.Spots.{FoundName, found_name, absent_name}
use Rattle.groups.proofs.Searched.{next_unknown}
use Rattle.groups.proofs.reading.next_pending.Goals as goal
use Rattle.groups.proofs.reading.next_pending.Goals.{In_ok-k}

found : (c : In_ok-k) → let x = c.args in
    FoundName x.consumer.now (group_in x.region.now).consumers c.in_ok-k.k
found c =
    let x = c.args in
    found_name x.consumer.now (group_in x.region.now).consumers c.in_ok-k.k (sym c.find_consumer.ensures ∙ c.in_ok-k.was)

pub next_of-requires : goal.next_of-requires
next_of-requires c = (c.requires, (found (goal.at.next_of-requires c).In_ok-k).within)

pub returns : goal.returns
returns c =
    let x = c.args in
    let n = (found (goal.at.returns c).In_ok-k).stands in
    ap (λ (m : List ℕ). entry_given m c.next_of.result) (sym n)
    ∙ c.next_of.ensures
    ∙ ap (λ (m : List ℕ). next_pending m x.after (group_in x.region.now)) n

pub returns-in_err-k : goal.returns-in_err-k
returns-in_err-k c =
    let g = group_in c.args.region.now in
    ap (entry_given c.args.consumer.now) c.from_residual.ensures
    ∙ sym (next_unknown c.args.consumer.now c.args.after g (rules g c.requires.rules_kept)
    (absent_name c.args.consumer.now g.consumers (sym c.find_consumer.ensures ∙ c.in_err-k.was)))
