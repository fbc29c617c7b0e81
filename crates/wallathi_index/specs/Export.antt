-- What a C caller sees of an operation on a record of bytes: the number returned (0 answered, 2, 3 and 18 the refusals, 32 none), the
-- out-parameters and the output of 16 bytes, written only with 0, and the record's bytes. Assumes nothing.
use Rattle.std.specs.Prelude.{List, ◌≡◌, ℕ, length, Option, Some, None}
use Rattle.octets.specs.Place.{put}
use Rattle.keys.specs.Entries.{Entry}
use Rattle.keys.specs.Operation.{Operation, Reply, refused, done, removed, value, found, nothing, code_of, reply_in, entries_after}
use Rattle.index_bytes.specs.Held.{entries_in}
use Rattle.index_bytes.specs.Promise.{bytes_after}

-- the out-parameter that holds o: the number removed, or the value
abbrev pub out_of : Reply → ℕ → ℕ
out_of (refused n) o = o
out_of done o = o
out_of (removed n) o = n
out_of (value v) o = v
out_of (found e) o = e.value
out_of nothing o = o

-- an operation that may change the record: entered with the bytes s, left with t
pub record Follows (o : Operation) (e : Option (List Entry)) (s : List ℕ) (code : ℕ) (t : List ℕ) : Type 0 where
  pub code_is : code ≡ code_of (reply_in o e)
  pub bytes_are : t ≡ bytes_after o e s
  pub holds : entries_in t ≡ entries_after o e

-- the neighbours: the entry that is found
abbrev pub given : Reply → Option Entry
given (refused n) = None
given done = None
given (removed n) = None
given (value v) = None
given (found e) = Some e
given nothing = None

-- its key goes to the start of the output, whose other bytes stay; no key is longer than an output
abbrev pub key_to : Option Entry → List ℕ → List ℕ
key_to None out = out
key_to (Some e) out = put out 0 e.key

abbrev pub length_to : Option Entry → ℕ → ℕ
length_to None len = len
length_to (Some e) len = length e.key

abbrev pub value_to : Option Entry → ℕ → ℕ
value_to None v = v
value_to (Some e) v = e.value

-- entered with the output and the two out-parameters, left with those after
pub record Tells (r : Reply) (out : List ℕ) (len value code : ℕ) (out' : List ℕ) (len' value' : ℕ) : Type 0 where
  pub code_is : code ≡ code_of r
  pub out_is : out' ≡ key_to (given r) out
  pub len_is : len' ≡ length_to (given r) len
  pub value_is : value' ≡ value_to (given r) value
