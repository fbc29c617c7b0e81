-- The operations of an index and what each answers (01, The index and Refusal numbers). Assumes nothing.
use Rattle.std.specs.Prelude.{Bool, true, false, not, List, [], ◌∷◌, ℕ, leb, eqb, length, is_none, Option, Some, None}
use Rattle.octets.specs.Pick.{pick, both}
use Rattle.keys.specs.Entries.{Entry, is_key, most_keys, lookup, has, insert, without, first_from, last_up_to}

pub data Operation : Type 0 where
  put : List ℕ → ℕ → Operation
  remove find first_at_or_above last_at_or_below : List ℕ → Operation

pub data Reply : Type 0 where
  refused : ℕ → Reply
  done : Reply
  removed : ℕ → Reply
  value : ℕ → Reply
  found : Entry → Reply
  nothing : Reply

-- the reply, and the entries after it
pub record Replied : Type 0 where
  pub reply : Reply
  pub after : List Entry

abbrev pub stays : List Entry → Reply → Replied
stays es r = record { reply = r; after = es }

-- every operation: 3, a key that is none
abbrev pub keyed : List ℕ → List Entry → Replied → Replied
keyed k es r = pick (is_key k) r (stays es (refused 3))

-- put: 18, a new key and 64 held
unfoldable pub put_to : List ℕ → ℕ → List Entry → Replied
put_to k v es =
    pick (both (is_none (lookup k es)) (leb most_keys (length es))) (stays es (refused 18))
    (record { reply = done; after = insert k v es })

-- remove: 1, or 0 where the key is not held
unfoldable pub remove_from : List ℕ → List Entry → Replied
remove_from k es = pick (has k es) (record { reply = removed 1; after = without k es }) (stays es (removed 0))

abbrev pub value_reply : Option ℕ → Reply
value_reply None = nothing
value_reply (Some v) = value v

abbrev pub entry_reply : Option Entry → Reply
entry_reply None = nothing
entry_reply (Some e) = found e

abbrev pub operate : Operation → List Entry → Replied
operate (put k v) es = keyed k es (put_to k v es)
operate (remove k) es = keyed k es (remove_from k es)
operate (find k) es = keyed k es (stays es (value_reply (lookup k es)))
operate (first_at_or_above k) es = keyed k es (stays es (entry_reply (first_from k es)))
operate (last_at_or_below k) es = keyed k es (stays es (entry_reply (last_up_to k es)))

-- what an index answers that holds the entries e: 2, where it holds none
abbrev pub reply_in : Operation → Option (List Entry) → Reply
reply_in o None = refused 2
reply_in o (Some es) = (operate o es).reply

-- the entries after it
abbrev pub entries_after : Operation → Option (List Entry) → Option (List Entry)
entries_after o None = None
entries_after o (Some es) = Some (operate o es).after

-- 01's number of a reply: the refusal's, 32 for none, else 0
abbrev pub code_of : Reply → ℕ
code_of (refused n) = n
code_of done = 0
code_of (removed n) = 0
code_of (value v) = 0
code_of (found e) = 0
code_of nothing = 32

-- whether the entries changed
abbrev pub is_change : Reply → Bool
is_change (refused n) = false
is_change done = true
is_change (removed n) = not (eqb n 0)
is_change (value v) = false
is_change (found e) = false
is_change nothing = false

-- operations that change nothing
abbrev pub only_reads : Operation → Bool
only_reads (put k v) = false
only_reads (remove k) = false
only_reads (find k) = true
only_reads (first_at_or_above k) = true
only_reads (last_at_or_below k) = true

-- a list of operations: the replies, and the entries in the end
unfoldable pub replies : List Operation → List Entry → List Reply
replies [] es = []
replies (o ∷ os) es = (operate o es).reply ∷ replies os (operate o es).after

unfoldable pub operate_all : List Operation → List Entry → List Entry
operate_all [] es = es
operate_all (o ∷ os) es = operate_all os (operate o es).after
