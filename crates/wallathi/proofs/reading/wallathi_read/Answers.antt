-- `wallathi_read` meets its contract. Assumes nothing.
use mathlib.Core.Path.{ap}
use lib.ListN.{length}
use Rattle.id.specs.declared.Id.{Id}
use Rattle.id.specs.Id.{id_of}
use Rattle.stream.specs.Command as Stream
use Rattle.stream.specs.Promise.{lent}
use Rattle.snapshot.specs.Command.{on_stream}
use Rattle.wallathi.proofs.Told.{exported_out}
use Rattle.wallathi.proofs.reading.wallathi_read.Goals as goal

pub returns : goal.returns
returns c =
    let x = c.args in
    let d = c.read-r in
    record {
      does = exported_out (lent x.store.now x.state.now) (lent x.store.now x.state.now) (on_stream (Stream.asks (Stream.read (id_of x.ms x.seq) (length x.out.now)))) x.out.now d.new.out (ap (λ (i : Id). on_stream (Stream.asks (Stream.read i (length x.out.now)))) c.new.ensures) d.ensures c.tell_number.ensures;
      bytes = record { store = c.known.ensures; state = c.known-2.ensures };
    }
