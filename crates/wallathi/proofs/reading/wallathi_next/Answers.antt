-- `wallathi_next` meets its contract. Assumes nothing.
use mathlib.Core.Path.{refl, ap}
use Rattle.id.specs.declared.Id.{Id}
use Rattle.id.specs.Id.{id_of}
use Rattle.stream.specs.Command as Stream
use Rattle.stream.specs.Promise.{lent}
use Rattle.snapshot.specs.Command.{on_stream}
use Rattle.wallathi.proofs.Told.{exported}
use Rattle.wallathi.proofs.reading.wallathi_next.Goals as goal

pub returns : goal.returns
returns c =
    let x = c.args in
    let d = c.next-r in
    record {
      does = exported (lent x.store.now x.state.now) (lent x.store.now x.state.now) (on_stream (Stream.asks (Stream.next (id_of x.ms x.seq)))) refl (ap (λ (i : Id). on_stream (Stream.asks (Stream.next i))) c.new.ensures) d.ensures c.tell_id.ensures;
      bytes = record { store = c.known.ensures; state = c.known-2.ensures };
    }
