-- What the functions that read replies answer, by what the parser gives from a place on: numbers and sizes, and the place after what was
-- got; or none. Assumes nothing.
use Rattle.std.specs.Prelude.{List, [], ℕ, ◌+◌, ◌-◌, leb, length, drop, Option, Some, None, Result, Ok, Err}
use Rattle.refusal.specs.declared.Refusal.{Refusal}
use Rattle.refusal.specs.declared.Refusal.TheVariants.{BadArgument, ShortOutput}
use Rattle.octets.specs.Pick.{pick}
use Rattle.octets.specs.Maybe.{◌>>=◌, ◌>>◌, need}
use Rattle.octets.specs.Place.{put}
use Rattle.id.specs.declared.Id.{Id}
use Rattle.slip.specs.Slip.{slip_pairs, slip}
use Rattle.node.specs.Message.{Pair, Message, longest_string, fields_of, values_of}
use Rattle.node.specs.Answer.{size_of}
use Rattle.resp.specs.Reply.{message_at, Reply, range, integer, error}
use Rattle.resp.specs.Parse.{Got, gives, Opening, id_in, cut_end, cut_digits, cut_number, cut_head, cut_bulk, cut_opening, cut_pairs, cut_entry, cut_entries}
use Rattle.resp_read.specs.declared.part.Found.{Found}
use Rattle.resp_read.specs.declared.entry.IdFound.{IdFound}
use Rattle.resp_read.specs.declared.entry.OpeningFound.{OpeningFound}
use Rattle.resp_read.specs.declared.entry.Sized.{Sized}
use Rattle.resp_read.specs.declared.reading.ReplyRead.{ReplyRead}
use Rattle.resp_read.specs.declared.reading.ReplyRead.TheVariants.{Range, Integer, Error}
use Rattle.resp_read.specs.declared.message.Picked.{Picked}

-- the place after what is left
unfoldable pub line_end : List ℕ → ℕ → Option ℕ
line_end s at = do
  r ← cut_end (drop at s)
  Some (length s - length r)

abbrev pub end_by : {A : Type 0} → List ℕ → Option (Got A) → Option ℕ
end_by s o = do
  c ← o
  Some (length s - length c.rest)

abbrev pub found : ℕ → ℕ → Found
found v n = record { value = v; next = n }

abbrev pub number_by : List ℕ → Option (Got ℕ) → Option Found
number_by s o = do
  c ← o
  Some (found c.got (length s - length c.rest))

unfoldable pub digits_at : List ℕ → ℕ → ℕ → Option Found
digits_at s n at = number_by s (cut_digits n (drop at s))

unfoldable pub number_at : List ℕ → ℕ → Option Found
number_at s at = number_by s (cut_number (drop at s))

unfoldable pub head_at : List ℕ → ℕ → ℕ → Option Found
head_at s at b = number_by s (cut_head b (drop at s))

-- a number that is the length of a string, at most 1,000
abbrev pub short_by : Option Found → Option Found
short_by o = do
  f ← o
  need (leb f.value longest_string)
  Some f

-- the length of a string
unfoldable pub bulk_at : List ℕ → ℕ → Option ℕ
bulk_at s at = do
  c ← cut_bulk (drop at s)
  Some (length c.got)

-- a string that is an ID
unfoldable pub cut_id : List ℕ → Option (Got Id)
cut_id s = do
  x ← cut_bulk s
  i ← id_in x.got
  Some (gives i x.rest)

abbrev pub id_found : Id → ℕ → IdFound
id_found i n = record { id = i; next = n }

abbrev pub id_by : List ℕ → Option (Got Id) → Option IdFound
id_by s o = do
  c ← o
  Some (id_found c.got (length s - length c.rest))

unfoldable pub id_at : List ℕ → ℕ → Option IdFound
id_at s at = id_by s (cut_id (drop at s))

abbrev pub opening_found : Id → ℕ → ℕ → OpeningFound
opening_found i k n = record { id = i; pairs = k; next = n }

abbrev pub opening_by : List ℕ → Option (Got Opening) → Option OpeningFound
opening_by s o = do
  c ← o
  Some (opening_found c.got.id c.got.pairs (length s - length c.rest))

unfoldable pub opening_at : List ℕ → ℕ → Option OpeningFound
opening_at s at = opening_by s (cut_opening (drop at s))

abbrev pub sized : ℕ → ℕ → ℕ → Sized
sized a b n = record { alone = a; slip = b; next = n }

-- beside those that are counted already: how many bytes the strings take in a node, and in a slip
abbrev pub sized_by : ℕ → ℕ → List ℕ → Option (Got (List Pair)) → Option Sized
sized_by a b s o = do
  c ← o
  Some (sized (a + size_of (fields_of c.got) + size_of (values_of c.got)) (b + length (slip_pairs c.got)) (length s - length c.rest))

unfoldable pub pairs_at : ℕ → ℕ → List ℕ → ℕ → ℕ → Option Sized
pairs_at a b s n at = sized_by a b s (cut_pairs n (drop at s))

abbrev pub entry_by : List ℕ → Option (Got Message) → Option IdFound
entry_by s o = do
  c ← o
  Some (id_found c.got.id (length s - length c.rest))

unfoldable pub entry_at : List ℕ → ℕ → Option IdFound
entry_at s at = entry_by s (cut_entry (drop at s))

-- the place after so many entries
unfoldable pub entries_end : List ℕ → ℕ → Id → ℕ → Option ℕ
entries_end s n i at = end_by s (cut_entries n i (drop at s))

-- a whole reply
abbrev pub read_as : Reply → ReplyRead
read_as (range ms) = Range (length ms)
read_as (integer n) = Integer n
read_as (error n) = Error n

abbrev pub read_by : Option Reply → Option ReplyRead
read_by o = do
  x ← o
  Some (read_as x)

-- the message as a slip: no message there, or 8, the output is shorter
abbrev pub picked_message : Option Message → ℕ → Result (Option Picked) Refusal
picked_message None room = Ok None
picked_message (Some m) room =
    pick (leb (length (slip m.pairs)) room) (Ok (Some (record { id = m.id; size = length (slip m.pairs) }))) (Err ShortOutput)

-- 3: not a range reply
abbrev pub picked_by : Option Reply → ℕ → ℕ → Result (Option Picked) Refusal
picked_by None place room = Err BadArgument
picked_by (Some (range ms)) place room = picked_message (message_at place ms) room
picked_by (Some (integer n)) place room = Err BadArgument
picked_by (Some (error n)) place room = Err BadArgument

-- the slip starts the output where a message is answered; otherwise the output stays
abbrev pub message_output : Option Message → List ℕ → List ℕ
message_output None out = out
message_output (Some m) out = pick (leb (length (slip m.pairs)) (length out)) (put out 0 (slip m.pairs)) out

abbrev pub picked_output : Option Reply → ℕ → List ℕ → List ℕ
picked_output None place out = out
picked_output (Some (range ms)) place out = message_output (message_at place ms) out
picked_output (Some (integer n)) place out = out
picked_output (Some (error n)) place out = out

-- the pairs that were got
abbrev pub pairs_by : Option (Got (List Pair)) → List Pair
pairs_by None = []
pairs_by (Some c) = c.got
