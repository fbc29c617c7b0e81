-- Replies in RESP2 (02, CR 4) without a store: what a C host gets of those that are made from a number, and of one that is read.
-- Assumes nothing.
use Rattle.std.specs.Prelude.{Bool, List, [], ◌∷◌, ℕ, leb, length, Option, Some, None}
use Rattle.refusal.specs.declared.Refusal.TheVariants.{BadArgument}
use Rattle.octets.specs.Pick.{pick}
use Rattle.octets.specs.Place.{put}
use Rattle.slip.specs.Slip.{slip}
use Rattle.node.specs.Message.{Message}
use Rattle.resp.specs.Reply.{message_at, Reply, range, integer, error, integer_bytes, error_bytes, is_count, is_refusal_number}
use Rattle.stream.specs.Command.{refused}
use Rattle.stream.specs.LedgerStep.{writes}
use Rattle.wallathi.specs.Export.{Seen, seen, over, tell_to}

-- a reply from a number alone: 3, any other number; 8, the output is shorter
abbrev pub number_seen : Bool → List ℕ → List ℕ → List ℕ → Seen
number_seen rule bs values output = tell_to values output (pick rule (writes (length output) bs) (refused BadArgument))

abbrev pub integer_seen : ℕ → List ℕ → List ℕ → Seen
integer_seen n values output = number_seen (is_count n) (integer_bytes n) values output

abbrev pub error_seen : ℕ → List ℕ → List ℕ → Seen
error_seen n values output = number_seen (is_refusal_number n) (error_bytes n) values output

-- the kind of a reply and its number: 1 a range, how many messages; 2 an integer; 3 an error, the refusal
abbrev pub numbers_in : Reply → List ℕ
numbers_in (range ms) = 1 ∷ (length ms ∷ [])
numbers_in (integer n) = 2 ∷ (n ∷ [])
numbers_in (error n) = 3 ∷ (n ∷ [])

-- a reply is read; 3, it is none
abbrev pub read_seen : List ℕ → Option Reply → Seen
read_seen values None = seen 3 values []
read_seen values (Some x) = seen 0 (over (numbers_in x) values) []

-- a message of a range reply as a slip: 32, past the end; 8, the output is shorter
abbrev pub message_seen : List ℕ → List ℕ → Option Message → Seen
message_seen values output None = seen 32 values output
message_seen values output (Some m) =
    pick (leb (length (slip m.pairs)) (length output))
    (seen 0 (over (m.id.ms ∷ (m.id.seq ∷ (length (slip m.pairs) ∷ []))) values) (put output 0 (slip m.pairs)))
    (seen 8 values output)

-- the one at a place, from 0; 3, not a range reply
abbrev pub place_seen : ℕ → List ℕ → List ℕ → Option Reply → Seen
place_seen place values output None = seen 3 values output
place_seen place values output (Some (range ms)) = message_seen values output (message_at place ms)
place_seen place values output (Some (integer n)) = seen 3 values output
place_seen place values output (Some (error n)) = seen 3 values output
