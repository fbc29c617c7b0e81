-- `wallathi_save` meets its contract. Assumes nothing.
use mathlib.Core.Path.{refl}
use lib.ListN.{length}
use Rattle.stream.specs.Promise.{lent}
use Rattle.snapshot.specs.Command.{save}
use Rattle.wallathi.proofs.Told.{exported_out}
use Rattle.wallathi.proofs.snapshots.wallathi_save.Goals as goal

pub returns : goal.returns
returns c =
    let x = c.args in
    let d = c.save-r in
    record {
      does = exported_out (lent x.store.now x.state.now) (lent x.store.now x.state.now) (save (length x.out.now)) x.out.now d.new.out refl (d.ensures, refl) c.tell_number.ensures;
      bytes = record { store = c.known.ensures; state = c.known-2.ensures };
    }
