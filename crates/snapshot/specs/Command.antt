-- Every command of 01, save and load among them, on what a store and its state hold: a model, or none where they are the image of
-- none. Assumes nothing.
use Rattle.std.specs.Prelude.{Bool, true, false, List, ℕ, leb, eqb, length, Option, Some, None}
use Rattle.refusal.specs.declared.Refusal.{Refusal}
use Rattle.refusal.specs.declared.Refusal.TheVariants.{NoSlot, Damaged, MostNodes, NoSnapshot, SmallStore}
use Rattle.octets.specs.Pick.{pick}
use Rattle.stream.specs.Ledger.{Ledger}
use Rattle.stream.specs.Cut.{Model, model_of, empty_model, ledger_of, fresh_cut, most_slots}
use Rattle.stream.specs.Command as Stream
use Rattle.stream.specs.LedgerStep.{writes}
use Rattle.stream.specs.Step.{Step, step}
use Rattle.stream.specs.Run.{Turn, run, answers}
use Rattle.snapshot.specs.Bytes.{snapshot_of}
use Rattle.snapshot.specs.Parse.{parse_snapshot}

pub data Command : Type 0 where
  on_stream : Stream.Command → Command
  save : ℕ → Command  -- bytes of output
  load : List ℕ → Command  -- the file

-- save: 15, the fresh cut needs over 64 nodes; 8, the output is shorter
unfoldable pub save_reply : ℕ → Ledger → Stream.Answer
save_reply room l =
    pick (leb (length (fresh_cut l.messages)) most_slots) (writes room (snapshot_of l)) (Stream.refused MostNodes)

-- of what is held; 2, nothing is
abbrev pub save_by : ℕ → Option Model → Stream.Answer
save_by room None = Stream.refused Damaged
save_by room (Some m) = save_reply room (ledger_of m)

-- ledger and fresh cut are then the file's
abbrev pub loaded : Ledger → Model
loaded l = model_of (fresh_cut l.messages) l

abbrev pub refuses : Model → Refusal → Step
refuses m r = record { answer = Stream.refused r; after = m }

-- what a load of a file does, whatever the store held: it is refused, or this ledger is then held
pub data Loading : Type 0 where
  refusing : Refusal → Loading
  loading : Ledger → Loading

-- 16, not a snapshot; 17, more nodes than slots
abbrev pub loading_of : ℕ → Option Ledger → Loading
loading_of slots None = refusing NoSnapshot
loading_of slots (Some l) = pick (leb (length (fresh_cut l.messages)) slots) (loading l) (refusing SmallStore)

-- load: 1, a store without a slot
unfoldable pub loads : ℕ → List ℕ → Loading
loads slots file = pick (eqb slots 0) (refusing NoSlot) (loading_of slots (parse_snapshot file))

abbrev pub loads_to : Loading → Model → Step
loads_to (refusing r) m = refuses m r
loads_to (loading l) m = record { answer = Stream.done; after = loaded l }

abbrev pub step_of : ℕ → Command → Model → Step
step_of slots (on_stream c) m = step slots c m
step_of slots (save room) m = record { answer = save_reply room (ledger_of m); after = m }
step_of slots (load file) m = loads_to (loads slots file) m

-- set up and load never answer 2: they heal a damaged store when accepted
abbrev pub is_set_up : Stream.Command → Bool
is_set_up Stream.set_up = true
is_set_up (Stream.add i s) = false
is_set_up (Stream.add_by_clock time s) = false
is_set_up (Stream.delete i) = false
is_set_up (Stream.trim k) = false
is_set_up (Stream.create_group name start) = false
is_set_up (Stream.destroy_group name) = false
is_set_up (Stream.asks q) = false
is_set_up (Stream.in_group name c) = false

abbrev pub heals : Command → Bool
heals (on_stream c) = is_set_up c
heals (save room) = false
heals (load file) = true

abbrev pub healed : Step → Turn Stream.Answer (Option Model)
healed s = record { answer = s.answer; after = pick (Stream.is_refusal s.answer) None (Some s.after) }

-- a command on what is held; 2, nothing is
abbrev pub turn : ℕ → Command → Option Model → Turn Stream.Answer (Option Model)
turn slots c (Some m) = record { answer = (step_of slots c m).answer; after = Some (step_of slots c m).after }
turn slots c None =
    pick (heals c) (healed (step_of slots c empty_model)) (record { answer = Stream.refused Damaged; after = None })

-- a list of commands from what is held
abbrev pub run_all : ℕ → List Command → Option Model → Option Model
run_all slots cs h = run (turn slots) cs h

abbrev pub answers_all : ℕ → List Command → Option Model → List Stream.Answer
answers_all slots cs h = answers (turn slots) cs h
