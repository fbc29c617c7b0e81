-- Lists of calls of the exported functions on the bytes of one record, from any bytes: what a host sees of each call, what the bytes are
-- in the end, and the relation that the promises of the functions make. Assumes nothing.
use Rattle.std.specs.Prelude.{List, [], ◌∷◌, ◌≡◌, ℕ, ◌<◌, ◌^◌, Option, Some}
use Rattle.keys.specs.Entries.{Entry}
use Rattle.keys.specs.Operation as on
use Rattle.index_bytes.specs.Held.{entries_in, record_bytes}
use Rattle.index_bytes.specs.Promise.{bytes_after}
use Rattle.wallathi_index.specs.Export.{out_of, Follows, Tells, given, key_to, length_to, value_to}

-- a call, with the output of 16 bytes that it is lent and what its out-parameters hold before
pub data Call : Type 0 where
  set_up : Call
  put : List ℕ → ℕ → Call  -- key, value
  remove : List ℕ → ℕ → Call  -- key, count
  find : List ℕ → ℕ → Call  -- key, value
  first_at_or_above : List ℕ → List ℕ → ℕ → ℕ → Call  -- key, output, length, value
  last_at_or_below : List ℕ → List ℕ → ℕ → ℕ → Call

-- what a host sees of a call: the number answered, the out-parameters and the output after it
pub data Seen : Type 0 where
  told : ℕ → Seen
  gave : ℕ → ℕ → Seen  -- number answered, count or value
  showed : ℕ → List ℕ → ℕ → ℕ → Seen  -- number answered, output, length, value

-- of a reply that gives an entry
abbrev pub shows : on.Reply → List ℕ → ℕ → ℕ → Seen
shows r out len v = showed (on.code_of r) (key_to (given r) out) (length_to (given r) len) (value_to (given r) v)

-- of a record that holds the entries e
abbrev pub seen_by : Call → Option (List Entry) → Seen
seen_by set_up e = told 0
seen_by (put k v) e = told (on.code_of (on.reply_in (on.put k v) e))
seen_by (remove k out) e = gave (on.code_of (on.reply_in (on.remove k) e)) (out_of (on.reply_in (on.remove k) e) out)
seen_by (find k out) e = gave (on.code_of (on.reply_in (on.find k) e)) (out_of (on.reply_in (on.find k) e) out)
seen_by (first_at_or_above k out len v) e = shows (on.reply_in (on.first_at_or_above k) e) out len v
seen_by (last_at_or_below k out len v) e = shows (on.reply_in (on.last_at_or_below k) e) out len v

-- the entries after it
abbrev pub held_by : Call → Option (List Entry) → Option (List Entry)
held_by set_up e = Some []
held_by (put k v) e = on.entries_after (on.put k v) e
held_by (remove k out) e = on.entries_after (on.remove k) e
held_by (find k out) e = e
held_by (first_at_or_above k out len v) e = e
held_by (last_at_or_below k out len v) e = e

-- and the bytes, where they were s
abbrev pub left_by : Call → Option (List Entry) → List ℕ → List ℕ
left_by set_up e s = record_bytes []
left_by (put k v) e s = bytes_after (on.put k v) e s
left_by (remove k out) e s = bytes_after (on.remove k) e s
left_by (find k out) e s = s
left_by (first_at_or_above k out len v) e s = s
left_by (last_at_or_below k out len v) e s = s

-- a list of calls
unfoldable pub seen_all : List Call → Option (List Entry) → List Seen
seen_all [] e = []
seen_all (c ∷ cs) e = seen_by c e ∷ seen_all cs (held_by c e)

unfoldable pub held_all : List Call → Option (List Entry) → Option (List Entry)
held_all [] e = e
held_all (c ∷ cs) e = held_all cs (held_by c e)

unfoldable pub left_all : List Call → Option (List Entry) → List ℕ → List ℕ
left_all [] e s = s
left_all (c ∷ cs) e s = left_all cs (held_by c e) (left_by c e s)

-- one call that keeps its function's promise: with the bytes s, seen a, left with the bytes t
pub data Meets : Call → List ℕ → Seen → List ℕ → Type 0 where
  meets_set_up : {s t : List ℕ} {code : ℕ} → code ≡ 0 → t ≡ record_bytes [] → entries_in t ≡ Some [] → Meets set_up s (told code) t
  meets_put : {k : List ℕ} {v : ℕ} {s t : List ℕ} {code : ℕ} → Follows (on.put k v) (entries_in s) s code t → Meets (put k v) s (told code) t
  meets_remove : {k : List ℕ} {o p : ℕ} {s t : List ℕ} {code : ℕ} → Follows (on.remove k) (entries_in s) s code t
      → p ≡ out_of (on.reply_in (on.remove k) (entries_in s)) o → Meets (remove k o) s (gave code p) t
  meets_find : {k : List ℕ} {o p : ℕ} {s : List ℕ} {code : ℕ} → code ≡ on.code_of (on.reply_in (on.find k) (entries_in s))
      → p ≡ out_of (on.reply_in (on.find k) (entries_in s)) o → Meets (find k o) s (gave code p) s
  meets_first : {k out out' s : List ℕ} {len v len' v' code : ℕ} → Tells (on.reply_in (on.first_at_or_above k) (entries_in s)) out len v code out' len' v'
      → Meets (first_at_or_above k out len v) s (showed code out' len' v') s
  meets_last : {k out out' s : List ℕ} {len v len' v' code : ℕ} → Tells (on.reply_in (on.last_at_or_below k) (entries_in s)) out len v code out' len' v'
      → Meets (last_at_or_below k out len v) s (showed code out' len' v') s

-- a list of calls, each keeping its promise: the bytes s became u
pub data Made : List Call → List ℕ → List Seen → List ℕ → Type 0 where
  made_none : {s : List ℕ} → Made [] s [] s
  made_more : {c : Call} {cs : List Call} {s t u : List ℕ} {a : Seen} {seen : List Seen} → Meets c s a t → Made cs t seen u → Made (c ∷ cs) s (a ∷ seen) u

-- a value of 32 bits, as every caller's is
abbrev pub Fits : Call → Type 0
Fits set_up = Unit {0}
Fits (put k v) = v < 2 ^ 32
Fits (remove k out) = Unit {0}
Fits (find k out) = Unit {0}
Fits (first_at_or_above k out len v) = Unit {0}
Fits (last_at_or_below k out len v) = Unit {0}

abbrev pub AllFit : List Call → Type 0
AllFit [] = Unit {0}
AllFit (c ∷ cs) = Fits c × AllFit cs
