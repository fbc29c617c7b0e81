-- `wallathi_next_pending` meets its contract. Assumes nothing.
use mathlib.Core.Path.{refl, ap}
use Rattle.id.specs.declared.Id.{Id}
use Rattle.id.specs.Id.{id_of}
use Rattle.stream.specs.Command as Stream
use Rattle.stream.specs.Promise.{lent}
use Rattle.snapshot.specs.Command.{on_stream}
use Rattle.wallathi.proofs.Told.{exported}
use Rattle.wallathi.proofs.consumers.wallathi_next_pending.Goals as goal

pub returns : goal.returns
returns c =
    let x = c.args in
    let d = c.next_pending-r in
    record {
      does = exported (lent x.store.now x.state.now) (lent x.store.now x.state.now) (on_stream (Stream.in_group x.group.now (Stream.next_pending x.consumer.now (id_of x.after_ms x.after_seq)))) refl (ap (λ (i : Id). on_stream (Stream.in_group x.group.now (Stream.next_pending x.consumer.now i))) c.new.ensures) d.ensures c.tell_entry.ensures;
      bytes = record { store = c.known.ensures; state = c.known-2.ensures };
    }
