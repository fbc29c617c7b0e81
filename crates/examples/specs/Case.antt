-- What a byte example is about, which bytes the definitions give it, and what they read in them. Assumes nothing.
use Rattle.std.specs.Prelude.{List, [], ◌∷◌, ℕ, Option, option_map}
use Rattle.id.specs.Id.{id_of}
use Rattle.listpack.specs.Element.{element}
use Rattle.listpack.specs.Listpack as Listpack
use Rattle.listpack.specs.Read.{parse, Parsed, parse_listpack}
use Rattle.node.specs.Message.{Message, Entry, pair}
use Rattle.node.specs.Bytes.{key_of, node_bytes, slot_of}
use Rattle.node.specs.Parse.{parse_slot}
use Rattle.stream.specs.Ledger.{Ledger}
use Rattle.snapshot.specs.Bytes.{snapshot_of}
use Rattle.snapshot.specs.Parse.{parse_snapshot}

pub data Case : Type 0 where
  string : List ℕ → Case
  listpack : List (List ℕ) → Case
  node : List Entry → Case
  snapshot : Ledger → Case

abbrev pub bytes_of : Case → List ℕ
bytes_of (string s) = element s
bytes_of (listpack xs) = Listpack.listpack xs
bytes_of (node es) = node_bytes es
bytes_of (snapshot l) = snapshot_of l

abbrev pub string_by : Parsed → Case
string_by p = string p.string

-- a node is read in its slot, anything else in its bytes
abbrev pub read_in : Case → Option Case
read_in (string s) = option_map string_by (parse (element s))
read_in (listpack xs) = option_map listpack (parse_listpack (Listpack.listpack xs))
read_in (node es) = option_map node (parse_slot (key_of es) (slot_of es))
read_in (snapshot l) = option_map snapshot (parse_snapshot (snapshot_of l))

pub record Row : Type 0 where
  pub what : Case
  pub bytes : List ℕ

abbrev pub row : Case → List ℕ → Row
row c bs = record { what = c; bytes = bs }

-- a message with one pair
abbrev pub message : ℕ → ℕ → List ℕ → List ℕ → Message
message ms seq f v = record { id = id_of ms seq; pairs = pair f v ∷ [] }
