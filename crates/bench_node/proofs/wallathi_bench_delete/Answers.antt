-- Assumes nothing.
use mathlib.Core.Path.{◌∙◌}
use Prim.Native.Nat.{◌≤◌}
use native.Mathlib.Omega.{arith}
use Rattle.id.specs.Id.{id_of}
use Rattle.bench_node.specs.Node.{live_of}
use Rattle.bench_node.proofs.Slots.{from_is, live_is, live_slot, deletes_few, deletes_is, deleted_is}
use Rattle.bench_node.proofs.wallathi_bench_delete.Goals as goal
use Rattle.bench_node.proofs.wallathi_bench_delete.Goals.{Else-live_of-lt2}

enough : (c : Else-live_of-lt2) → let a = c.args in 2 ≤ live_of (id_of a.key_ms a.key_seq) a.slot.now
enough c = omega (arith, c.live_of.ensures)

pub returns-then-live_of-lt2 : goal.returns-then-live_of-lt2
returns-then-live_of-lt2 c = deletes_few _ _ _ (omega (arith, c.live_of.ensures))

pub delete-requires : goal.delete-requires
delete-requires c = live_slot _ _ (enough (goal.at.delete-requires c).Else-live_of-lt2)

pub returns : goal.returns
returns c =
    let e = c.delete.ensures in
    let h = enough (goal.at.returns c).Else-live_of-lt2 in
    (c.from.ensures ∙ from_is _ ∙ deletes_is _ _ _ h _ (e.0 ∙ live_is _ _ _), e.1 ∙ deleted_is _ _ _ h)
