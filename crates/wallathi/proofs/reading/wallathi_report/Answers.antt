-- `wallathi_report` meets its contract. Assumes nothing.
use mathlib.Core.Path.{refl, ap₂}
use Rattle.id.specs.declared.Id.{Id}
use Rattle.id.specs.Id.{id_of}
use Rattle.stream.specs.Command as Stream
use Rattle.stream.specs.Promise.{lent}
use Rattle.snapshot.specs.Command.{on_stream}
use Rattle.wallathi.proofs.Told.{exported}
use Rattle.wallathi.proofs.reading.wallathi_report.Goals as goal

pub returns : goal.returns
returns c =
    let x = c.args in
    record {
      does = exported (lent x.store.now x.state.now) (lent x.store.now x.state.now) (on_stream (Stream.asks (Stream.report x.name.now (id_of x.first_ms x.first_seq) (id_of x.last_ms x.last_seq)))) refl (ap₂ (λ (i j : Id). on_stream (Stream.asks (Stream.report x.name.now i j))) c.new-first.ensures c.new-last.ensures) c.report-r.ensures c.tell_report.ensures;
      bytes = record { store = c.known.ensures; state = c.known-2.ensures };
    }
