-- `wallathi_load` meets its contract. Assumes nothing.
use mathlib.Core.Path.{refl}
use Rattle.stream.specs.Promise.{lent}
use Rattle.snapshot.specs.Command.{load}
use Rattle.wallathi.proofs.Told.{exported}
use Rattle.wallathi.proofs.snapshots.wallathi_load.Goals as goal

pub returns : goal.returns
returns c =
    let x = c.args in
    let d = c.load-r in
    record {
      does = exported (lent x.store.now x.state.now) (lent d.new.store d.new.state) (load x.file.now) refl refl d.ensures c.tell.ensures;
      bytes = record { store = c.known.ensures; state = c.known-2.ensures };
    }
