-- `wallathi_add_by_clock` meets its contract. Assumes nothing.
use mathlib.Core.Path.{refl}
use Rattle.stream.specs.Command as Stream
use Rattle.stream.specs.Promise.{lent}
use Rattle.snapshot.specs.Command.{on_stream}
use Rattle.wallathi.proofs.Told.{exported}
use Rattle.wallathi.proofs.messages.wallathi_add_by_clock.Goals as goal

pub returns : goal.returns
returns c =
    let x = c.args in
    let d = c.add_by_clock-r in
    record {
      does = exported (lent x.store.now x.state.now) (lent d.new.store d.new.state) (on_stream (Stream.add_by_clock x.time x.slip.now)) refl refl d.ensures c.tell_id.ensures;
      bytes = record { store = c.known.ensures; state = c.known-2.ensures };
    }
