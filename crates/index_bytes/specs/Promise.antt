-- What an operation that may change the bytes promises, on the entries e that they hold (01, The index; refusal 2 where they hold none).
-- Assumes nothing.
use Rattle.std.specs.Prelude.{◌≡◌, List, ℕ, Option, Some, None}
use Rattle.octets.specs.Pick.{pick}
use Rattle.keys.specs.Entries.{Entry}
use Rattle.keys.specs.Operation.{Operation, Reply, operate, is_change, reply_in, entries_after}
use Rattle.index_bytes.specs.Held.{entries_in, record_bytes}

-- the bytes after an operation: written anew where the entries change, else as they were
abbrev pub bytes_after : Operation → Option (List Entry) → List ℕ → List ℕ
bytes_after o None s = s
bytes_after o (Some es) s = pick (is_change (operate o es).reply) (record_bytes (operate o es).after) s

-- entered with the bytes s, answered a, left with the bytes t
pub record ChangesIn (o : Operation) (e : Option (List Entry)) (s : List ℕ) (a : Reply) (t : List ℕ) : Type 0 where
  pub reply : a ≡ reply_in o e
  pub bytes_are : t ≡ bytes_after o e s
  pub holds : entries_in t ≡ entries_after o e
