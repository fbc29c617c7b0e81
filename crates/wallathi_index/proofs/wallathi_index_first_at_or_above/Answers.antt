-- `wallathi_index_first_at_or_above` meets its contract. Assumes nothing.
use mathlib.Core.Path.{ap, ◌∙◌, subst, subst⁻¹}
use borrow.Author.Rules.{rules}
use Rattle.keys.specs.Operation.{Reply}
use Rattle.keys.specs.Answer.{neighbour_reply, IsShort}
use Rattle.index_bytes.specs.Held.{entries_in}
use Rattle.index_bytes.proofs.Laws.{first_short}
use Rattle.wallathi_index.specs.Export.{Tells}
use Rattle.keys.proofs.Laws.{first_told}
use Rattle.wallathi_index.proofs.wallathi_index_first_at_or_above.Goals as goal

pub tell-requires : goal.tell-requires
tell-requires c =
    let x = c.args in
    (subst⁻¹ IsShort c.first_at_or_above.ensures (first_short x.key.now x.bytes.now), search rules)

pub returns : goal.returns
returns c =
    let x = c.args in
    let t = c.tell in
    let n = c.first_at_or_above in
    subst (λ (r : Reply). Tells r x.output.now x.len.now x.value.now t.result t.new.output t.new.len t.new.value)
    (ap neighbour_reply n.ensures ∙ first_told x.key.now (entries_in x.bytes.now)) t.ensures
