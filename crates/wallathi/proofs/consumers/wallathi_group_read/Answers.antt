-- `wallathi_group_read` meets its contract. Assumes nothing.
use mathlib.Core.Path.{refl}
use Rattle.stream.specs.Command as Stream
use Rattle.stream.specs.Promise.{lent}
use Rattle.snapshot.specs.Command.{on_stream}
use Rattle.wallathi.proofs.Told.{exported}
use Rattle.wallathi.proofs.consumers.wallathi_group_read.Goals as goal

pub returns : goal.returns
returns c =
    let x = c.args in
    let d = c.group_read-r in
    record {
      does = exported (lent x.store.now x.state.now) (lent x.store.now d.new.state) (on_stream (Stream.in_group x.group.now (Stream.group_read x.consumer.now x.time))) refl refl d.ensures c.tell_id.ensures;
      bytes = record { store = c.known.ensures; state = c.known-2.ensures };
    }
