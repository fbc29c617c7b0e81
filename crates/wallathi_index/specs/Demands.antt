-- The claim about whole lists of calls, one for every host that calls the exported functions one after the other on the bytes of one
-- record: `Made` (Run) is the promise of each of them, threaded. Proved: proofs/Sequence. Assumes nothing.
use Rattle.std.specs.Prelude.{List, [], ◌∷◌, ◌≡◌, ℕ, None}
use Rattle.index_bytes.specs.Held.{entries_in}
use Rattle.wallathi_index.specs.Run.{Call, set_up, put, remove, find, first_at_or_above, last_at_or_below, Seen, told, gave, showed, seen_all, held_all, left_all, Made, AllFit}

-- all that a host sees, the bytes in the end and what they hold, from what the bytes held
pub record Whole (cs : List Call) (s : List ℕ) (seen : List Seen) (u : List ℕ) : Type 0 where
  pub sees : seen ≡ seen_all cs (entries_in s)
  pub leaves : u ≡ left_all cs (entries_in s) s
  pub holds : entries_in u ≡ held_all cs (entries_in s)

-- the number that a call answered, and the count that remove gave
abbrev pub code_seen : Seen → ℕ
code_seen (told c) = c
code_seen (gave c n) = c
code_seen (showed c o l v) = c

abbrev pub count_seen : Seen → ℕ
count_seen (told c) = 0
count_seen (gave c n) = n
count_seen (showed c o l v) = 0

-- a call that only reads, or was refused, or removed nothing
abbrev pub Quiet : Call → Seen → Type 0
Quiet set_up a = ⊥
Quiet (put k v) a = code_seen a ≡ 0 → ⊥
Quiet (remove k o) a = code_seen a ≡ 0 → count_seen a ≡ 0
Quiet (find k o) a = Unit {0}
Quiet (first_at_or_above k out len v) a = Unit {0}
Quiet (last_at_or_below k out len v) a = Unit {0}

abbrev pub AllQuiet : List Call → List Seen → Type 0
AllQuiet [] [] = Unit {0}
AllQuiet [] (a ∷ seen) = ⊥
AllQuiet (c ∷ cs) [] = ⊥
AllQuiet (c ∷ cs) (a ∷ seen) = Quiet c a × AllQuiet cs seen

-- a call that is no set up
abbrev pub NoSetUp : Call → Type 0
NoSetUp set_up = ⊥
NoSetUp (put k v) = Unit {0}
NoSetUp (remove k o) = Unit {0}
NoSetUp (find k o) = Unit {0}
NoSetUp (first_at_or_above k out len v) = Unit {0}
NoSetUp (last_at_or_below k out len v) = Unit {0}

abbrev pub NoSetUps : List Call → Type 0
NoSetUps [] = Unit {0}
NoSetUps (c ∷ cs) = NoSetUp c × NoSetUps cs

abbrev pub AllTwo : List Seen → Type 0
AllTwo [] = Unit {0}
AllTwo (a ∷ seen) = (code_seen a ≡ 2) × AllTwo seen

pub record Demands : Type 0 where
  -- every list of calls, from any bytes: all that a host sees, the bytes in the end and what they hold follow from what the bytes held
  pub every_list : (cs : List Call) (s u : List ℕ) (seen : List Seen) → Made cs s seen u → Whole cs s seen u
  -- lists that only read, or are refused, or remove nothing leave every byte
  pub quiet : (cs : List Call) (s u : List ℕ) (seen : List Seen) → Made cs s seen u → AllQuiet cs seen → u ≡ s
  -- a damaged record answers 2 until a set up, and stays as it is
  pub damaged : (cs : List Call) (s u : List ℕ) (seen : List Seen) → Made cs s seen u → entries_in s ≡ None → NoSetUps cs → (u ≡ s) × AllTwo seen
  -- none of this is said of nothing: every list of calls has an outcome, from any bytes
  pub some_run : (cs : List Call) (s : List ℕ) → AllFit cs → Made cs s (seen_all cs (entries_in s)) (left_all cs (entries_in s) s)
