-- `check_delivery` meets its contract, by the law of each answer. Assumes nothing.
use mathlib.Core.Path.{◌≡◌, sym, ◌∙◌}
use mathlib.Core.Bool.{false}
use Rattle.groups.specs.Parse.{group_in}
use Rattle.groups.specs.Step.{lacks_consumer}
use Rattle.groups_change.proofs.Changes.{deliver_12, deliver_13, deliver_done}
use Rattle.groups_change.proofs.commands.check_delivery.Goals as goal
use Rattle.groups_change.proofs.commands.check_delivery.Goals.{Else-lacks_consumer}

room : (c : Else-lacks_consumer) → lacks_consumer c.args.consumer.now (group_in c.args.region.now) ≡ false
room c = sym c.lacks_consumer.ensures ∙ c.if-lacks_consumer.false

pub returns-then-lacks_consumer : goal.returns-then-lacks_consumer
returns-then-lacks_consumer c = let x = c.args in sym (deliver_12 x.consumer.now (group_in x.region.now) (sym c.lacks_consumer.ensures ∙ c.if-lacks_consumer.true))

pub returns-then-n-ge-MOST_PENDING : goal.returns-then-n-ge-MOST_PENDING
returns-then-n-ge-MOST_PENDING c =
    let x = c.args in
    let n = c.pending_count-n in
    sym (deliver_13 x.consumer.now (group_in x.region.now) n.result n.ensures.0 (room (goal.at.returns-then-n-ge-MOST_PENDING c).Else-lacks_consumer) c.if-n-ge-MOST_PENDING.true)

pub returns : goal.returns
returns c =
    let x = c.args in
    let n = c.pending_count-n in
    sym (deliver_done x.consumer.now (group_in x.region.now) n.result n.ensures.0 (room (goal.at.returns c).Else-lacks_consumer) c.if-n-ge-MOST_PENDING.false)
