-- `wallathi_destroy_group` meets its contract. Assumes nothing.
use mathlib.Core.Path.{refl}
use Rattle.stream.specs.Command as Stream
use Rattle.stream.specs.Promise.{lent}
use Rattle.snapshot.specs.Command.{on_stream}
use Rattle.wallathi.proofs.Told.{exported}
use Rattle.wallathi.proofs.consumers.wallathi_destroy_group.Goals as goal

pub returns : goal.returns
returns c =
    let x = c.args in
    let d = c.destroy_group-r in
    record {
      does = exported (lent x.store.now x.state.now) (lent x.store.now d.new.state) (on_stream (Stream.destroy_group x.name.now)) refl refl d.ensures c.tell.ensures;
      bytes = record { store = c.known.ensures; state = c.known-2.ensures };
    }
