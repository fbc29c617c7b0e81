-- Lists of calls of the exported functions on one store and its state (01, Snapshot, last paragraph): each call gets store and state as
-- the last one left them; its output and out-parameters are its own. `Meets` is the promise of every exported function but
-- wallathi_state_bytes: the contracts in src/ cite it, which is how `Made` is tied to the code. Assumes nothing.
use Rattle.std.specs.Prelude.{List, [], ◌∷◌, ℕ, length}
use Rattle.octets.specs.Bytes.{Bytes}
use Rattle.stream.specs.Command as Stream
use Rattle.stream.specs.Promise.{Lent}
use Rattle.snapshot.specs.Command.{Command, on_stream}
use Rattle.snapshot.specs.Promise.{Does}
use Rattle.wallathi.specs.Export.{Seen, tell_to}

pub record Call : Type 0 where
  pub command : ℕ → Command  -- by the length of the output
  pub values : List ℕ  -- what the out-parameters hold before
  pub output : List ℕ  -- and the output

abbrev pub call : (ℕ → Command) → List ℕ → List ℕ → Call
call c values output = record { command = c; values = values; output = output }

-- a call that has no output
abbrev pub plain : Stream.Command → List ℕ → Call
plain c values = call (λ _. on_stream c) values []

abbrev pub command_of : Call → Command
command_of c = c.command (length c.output)

-- store and state are bytes
pub record AreBytes (i : Lent) : Type 0 where
  pub store : Bytes i.store
  pub state : Bytes i.state

-- one call that keeps its function's promise: entered with i, seen s, left with j
pub record Meets (c : Call) (i : Lent) (s : Seen) (j : Lent) : Type 0 where
  pub does : Does (tell_to c.values c.output) (command_of c) i s j
  pub bytes : AreBytes j

-- a list of calls, each keeping its promise: store and state i became k
pub data Made : List Call → Lent → List Seen → Lent → Type 0 where
  made_none : {i : Lent} → Made [] i [] i
  made_more : {c : Call} {cs : List Call} {i j k : Lent} {s : Seen} {ss : List Seen} → Meets c i s j → Made cs j ss k → Made (c ∷ cs) i (s ∷ ss) k
