-- `wallathi_index_last_at_or_below` meets its contract. Assumes nothing.
use mathlib.Core.Path.{ap, ◌∙◌, subst, subst⁻¹}
use borrow.Author.Rules.{rules}
use Rattle.keys.specs.Operation.{Reply}
use Rattle.keys.specs.Answer.{neighbour_reply, IsShort}
use Rattle.index_bytes.specs.Held.{entries_in}
use Rattle.index_bytes.proofs.Laws.{last_short}
use Rattle.wallathi_index.specs.Export.{Tells}
use Rattle.keys.proofs.Laws.{last_told}
use Rattle.wallathi_index.proofs.wallathi_index_last_at_or_below.Goals as goal

pub tell-requires : goal.tell-requires
tell-requires c =
    let x = c.args in
    (subst⁻¹ IsShort c.last_at_or_below.ensures (last_short x.key.now x.bytes.now), search rules)

pub returns : goal.returns
returns c =
    let x = c.args in
    let t = c.tell in
    let n = c.last_at_or_below in
    subst (λ (r : Reply). Tells r x.output.now x.len.now x.value.now t.result t.new.output t.new.len t.new.value)
    (ap neighbour_reply n.ensures ∙ last_told x.key.now (entries_in x.bytes.now)) t.ensures
