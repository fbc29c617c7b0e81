-- The plain ledger under every command, save and load among them: what is answered, and the ledger after it. Of the cut it sees what
-- stands beside the ledger, and nothing else. Assumes nothing.
use Rattle.std.specs.Prelude.{false, ℕ}
use Rattle.stream.specs.Ledger.{Ledger}
use Rattle.stream.specs.Command.{done}
use Rattle.stream.specs.Cut.{Model}
use Rattle.stream.specs.LedgerStep.{LedgerStep, Beside, answers, refuses, ledger_step}
use Rattle.stream.specs.Step.{beside_of}
use Rattle.snapshot.specs.Command.{Command, on_stream, save, load, save_reply, Loading, refusing, loading, loads}

abbrev pub on_load : Loading → Ledger → LedgerStep
on_load (refusing r) l = refuses l r
on_load (loading k) l = answers done k

abbrev pub ledger_turn : Beside → Command → Ledger → LedgerStep
ledger_turn b (on_stream c) l = ledger_step b c l
ledger_turn b (save room) l = answers (save_reply room l) l
ledger_turn b (load file) l = on_load (loads b.slots file) l

-- save and load need no slot for a message
abbrev pub beside_turn : ℕ → Command → Model → Beside
beside_turn slots (on_stream c) m = beside_of slots c m
beside_turn slots (save room) m = record { slots = slots; full = false }
beside_turn slots (load file) m = record { slots = slots; full = false }
