-- `wallathi_range_reply` meets its contract. Assumes nothing.
use mathlib.Core.Path.{ap₂}
use lib.ListN.{length}
use Rattle.id.specs.declared.Id.{Id}
use Rattle.id.specs.Id.{id_of}
use Rattle.stream.specs.Command as Stream
use Rattle.stream.specs.Promise.{lent}
use Rattle.snapshot.specs.Command.{on_stream}
use Rattle.wallathi.proofs.Told.{exported_out}
use Rattle.wallathi.proofs.replies.wallathi_range_reply.Goals as goal

pub returns : goal.returns
returns c =
    let x = c.args in
    let d = c.range_reply-r in
    record {
      does = exported_out (lent x.store.now x.state.now) (lent x.store.now x.state.now) (on_stream (Stream.asks (Stream.range_reply (id_of x.first_ms x.first_seq) (id_of x.last_ms x.last_seq) (length x.out.now)))) x.out.now d.new.out (ap₂ (λ (i j : Id). on_stream (Stream.asks (Stream.range_reply i j (length x.out.now)))) c.new-first.ensures c.new-last.ensures) d.ensures c.tell_number.ensures;
      bytes = record { store = c.known.ensures; state = c.known-2.ensures };
    }
