-- Strict reading of a file: the ledger whose snapshot it is, or none. What a file seems to hold is read first; it is a snapshot
-- exactly when that is a ledger, of at most 64 nodes freshly cut, whose snapshot is the file. Assumes nothing.
use Rattle.std.specs.Prelude.{List, [], ◌∷◌, ◌++◌, ℕ, zero, suc, ◌*◌, leb, eqb, length, drop, get_or, Option, Some, None, option_map}
use Rattle.octets.specs.Pick.{pick}
use Rattle.octets.specs.Maybe.{◌>>=◌, ◌>>◌, need}
use Rattle.octets.specs.Bytes.{le_value}
use Rattle.octets.specs.Place.{area, take_bytes}
use Rattle.octets.specs.Compare.{same}
use Rattle.id.specs.Bytes.{id_from}
use Rattle.node.specs.Message.{Message, live_in}
use Rattle.node.specs.Parse.{parse_node}
use Rattle.groups.specs.Group.{Group}
use Rattle.groups.specs.Parse.{parse_body}
use Rattle.stream.specs.Ledger.{Ledger, empty_ledger, with_messages, with_last, with_groups, is_ledger}
use Rattle.stream.specs.Cut.{fresh_cut, most_slots}
use Rattle.snapshot.specs.Bytes.{Part, part, snapshot_of}

-- so many entries of the contents, and their bodies
unfoldable pub take_parts : ℕ → List ℕ → List ℕ → Option (List Part)
take_parts zero table file = Some []
take_parts (suc n) table file = do
  row ← take_bytes 9 table
  body ← take_bytes (le_value (area 5 4 row.bytes)) file
  ps ← take_parts n row.rest body.rest
  Some (part (get_or row.bytes 0 0) body.bytes ∷ ps)

-- version, count, contents, bodies
unfoldable pub parse_file : List ℕ → Option (List Part)
parse_file f = do
  start ← take_bytes 3 f
  let count = le_value (area 1 2 start.bytes) in do
    table ← take_bytes (9 * count) start.rest
    take_parts count table.bytes table.rest

-- the messages of a node's body
unfoldable pub read_node : List ℕ → Option (List Message)
read_node body = do
  es ← parse_node (id_from (area 0 16 body)) (drop 16 body)
  Some (live_in es)

-- nodes and groups, in their order
pub record Held : Type 0 where
  pub messages : List Message
  pub groups : List Group

abbrev pub messages_before : Held → List Message → Held
messages_before h ms = record { messages = ms ++ h.messages; groups = h.groups }

abbrev pub group_before : Held → Group → Held
group_before h g = record { messages = h.messages; groups = g ∷ h.groups }

unfoldable pub read_parts : List Part → Option Held
read_parts [] = Some (record { messages = []; groups = [] })
read_parts (p ∷ ps) = do
  h ← read_parts ps
  pick (eqb p.kind 2) (option_map (messages_before h) (read_node p.body)) (option_map (group_before h) (parse_body p.body))

-- what a file seems to hold
abbrev pub read_ledger : List Part → Option Ledger
read_ledger [] = None
read_ledger (p ∷ ps) = do
  h ← read_parts ps
  Some (with_groups (with_last (with_messages empty_ledger h.messages) (id_from p.body)) h.groups)

unfoldable pub parse_snapshot : List ℕ → Option Ledger
parse_snapshot f = do
  ps ← parse_file f
  l ← read_ledger ps
  need (is_ledger l)
  need (leb (length (fresh_cut l.messages)) most_slots)
  need (same (snapshot_of l) f)
  Some l
