-- `wallathi_set_up` meets its contract. Assumes nothing.
use mathlib.Core.Path.{refl}
use Rattle.stream.specs.Command as Stream
use Rattle.stream.specs.Promise.{lent}
use Rattle.snapshot.specs.Command.{on_stream}
use Rattle.wallathi.proofs.Told.{exported}
use Rattle.wallathi.proofs.messages.wallathi_set_up.Goals as goal

pub returns : goal.returns
returns c =
    let x = c.args in
    let d = c.set_up-r in
    record {
      does = exported (lent x.store.now x.state.now) (lent d.new.store d.new.state) (on_stream (Stream.set_up)) refl refl d.ensures c.tell.ensures;
      bytes = record { store = c.known.ensures; state = c.known-2.ensures };
    }
