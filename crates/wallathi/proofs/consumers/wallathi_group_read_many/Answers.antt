-- `wallathi_group_read_many` meets its contract. Assumes nothing.
use mathlib.Core.Path.{refl}
use lib.ListN.{length}
use Rattle.stream.specs.Command as Stream
use Rattle.stream.specs.Promise.{lent}
use Rattle.snapshot.specs.Command.{on_stream}
use Rattle.wallathi.proofs.Told.{exported_out}
use Rattle.wallathi.proofs.consumers.wallathi_group_read_many.Goals as goal

pub returns : goal.returns
returns c =
    let x = c.args in
    let d = c.group_read_many-r in
    record {
      does = exported_out (lent x.store.now x.state.now) (lent x.store.now d.new.state) (on_stream (Stream.in_group x.group.now (Stream.group_read_many x.consumer.now x.time x.n (length x.out.now)))) x.out.now d.new.out refl d.ensures c.tell_number.ensures;
      bytes = record { store = c.known.ensures; state = c.known-2.ensures };
    }
