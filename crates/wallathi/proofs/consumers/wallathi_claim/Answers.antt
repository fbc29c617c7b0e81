-- `wallathi_claim` meets its contract. Assumes nothing.
use mathlib.Core.Path.{refl, ap}
use Rattle.id.specs.declared.Id.{Id}
use Rattle.id.specs.Id.{id_of}
use Rattle.stream.specs.Command as Stream
use Rattle.stream.specs.Promise.{lent}
use Rattle.snapshot.specs.Command.{on_stream}
use Rattle.wallathi.proofs.Told.{exported}
use Rattle.wallathi.proofs.consumers.wallathi_claim.Goals as goal

pub returns : goal.returns
returns c =
    let x = c.args in
    let d = c.claim-r in
    record {
      does = exported (lent x.store.now x.state.now) (lent x.store.now d.new.state) (on_stream (Stream.in_group x.group.now (Stream.claim x.consumer.now x.least_idle (id_of x.ms x.seq) x.time))) refl (ap (λ (i : Id). on_stream (Stream.in_group x.group.now (Stream.claim x.consumer.now x.least_idle i x.time))) c.new-id.ensures) d.ensures c.tell.ensures;
      bytes = record { store = c.known.ensures; state = c.known-2.ensures };
    }
