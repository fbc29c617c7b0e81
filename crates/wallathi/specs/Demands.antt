-- What is claimed of whole lists of calls (00, The order; 01, Snapshot, last paragraph; 02), for every host that calls the exported
-- functions one after the other on one store and its state: the record `Demands`, at the end. Before it stands what its words mean.
-- proofs/Demands proves it. Assumes nothing.
use Rattle.std.specs.Prelude.{◌≡◌, true, false, ℕ, ◌-◌, ◌*◌, ◌^◌, ◌≤◌, ◌<◌, min, leb, length, take, drop, get_or, Option, Some, None, option_map}
use mathlib.Core.List.{List, [], ◌∷◌, ◌++◌, Memᴰ}
use Rattle.octets.specs.Pick.{pick}
use Rattle.octets.specs.Bytes.{Bytes}
use Rattle.id.specs.declared.Id.{Id}
use Rattle.id.specs.Id.{Fits64, below, at_most, following_of}
use Rattle.node.specs.Message.{Message}
use Rattle.node.specs.Step.{find_message, value_of}
use Rattle.resp.specs.Reply.{message_at, Reply, range, range_bytes, reply_bytes, is_reply}
use Rattle.resp.specs.Parse.{parse_reply}
use Rattle.groups.specs.Group.{Pending, Group, is_among, most_pending}
use Rattle.groups.specs.Step.{find_group}
use Rattle.stream.specs.Ledger.{Ledger, empty_ledger, is_ledger}
use Rattle.stream.specs.Cut.{Node, Model, model_of, ledger_of, is_model, fresh_cut}
use Rattle.stream.specs.Command as Stream
use Rattle.stream.specs.Command.{GroupCommand, group_read, group_read_many, acknowledge, claim, next_pending, drop_consumer, set_up, add, add_by_clock, delete, trim, create_group, destroy_group, asks, in_group, field, report, range_reply, Answer}
use Rattle.stream.specs.Report.{between, pattern_by, Integers, Report, no_messages, report_on, counts_of, Exact, joined}
use Rattle.stream.specs.LedgerStep.{ids_after, ids_bytes, writes}
use Rattle.stream.specs.Laid.{Laid}
use Rattle.stream.specs.Run.{Turn, run, answers}
use Rattle.stream.specs.Promise.{Lent, held_by, slots_of, tail_of}
use Rattle.snapshot.specs.Bytes.{snapshot_of}
use Rattle.snapshot.specs.Command.{Command, on_stream, save, load, loaded, heals, step_of}
use Rattle.snapshot.specs.Ledger.{ledger_turn, beside_turn}
use Rattle.wallathi.specs.Export.{Seen, seen, over, tell_to}
use Rattle.wallathi.specs.Run.{Call, call, plain, command_of, AreBytes, Meets, Made}
use Rattle.wallathi.specs.Replies.{read_seen, message_seen, place_seen}

-- the plain ledger with the cut beside it
pub record Kept : Type 0 where
  pub ledger : Ledger
  pub cut : List Node

abbrev pub kept : Ledger → List Node → Kept
kept l ns = record { ledger = l; cut = ns }

-- as an accepted set up leaves them
abbrev pub fresh : Kept
fresh = kept empty_ledger []

abbrev pub model_by : Kept → Model
model_by k = model_of k.cut k.ledger

-- a command: answer and ledger are the plain ledger's; of the cut it is told whether a slot is lacking
abbrev pub plain_turn : ℕ → Command → Kept → Turn Answer Kept
plain_turn slots c k =
    let m = model_by k in
    let s = ledger_turn (beside_turn slots c m) c k.ledger in
    record { answer = s.answer; after = kept s.after (step_of slots c m).after.nodes }

-- a call: what a host sees of it
abbrev pub plain_call : ℕ → Call → Kept → Turn Seen Kept
plain_call slots c k =
    let t = plain_turn slots (command_of c) k in
    record { answer = tell_to c.values c.output t.answer; after = t.after }

-- a list of calls from a fresh store: ledger and cut in the end, and all that is seen
abbrev pub kept_after : ℕ → List Call → Kept
kept_after slots cs = run (plain_call slots) cs fresh

abbrev pub seen_of : ℕ → List Call → List Seen
seen_of slots cs = answers (plain_call slots) cs fresh

-- a store holds a ledger when it and its state are the image of it and some cut
abbrev pub ledger_by : Lent → Option Ledger
ledger_by i = option_map ledger_of (held_by i)

-- demands 2 and 3: every list of calls cs on the store i₀ once it is set up answers as the plain ledger does with its cut beside it, and
-- the store k after it holds ledger and cut; it is laid out by the published encoding; bytes past the last slot are never touched
pub record AsLedger (i₀ : Lent) (cs : List Call) (ss : List Seen) (k : Lent) : Type 0 where
  pub sees : ss ≡ seen_of (slots_of i₀) cs
  pub holds : held_by k ≡ Some (model_by (kept_after (slots_of i₀) cs))
  pub ledger_is : ledger_by k ≡ Some (kept_after (slots_of i₀) cs).ledger
  pub rules : is_model (slots_of i₀) (model_by (kept_after (slots_of i₀) cs)) ≡ true
  pub bytes : AreBytes k
  pub laid : Laid k.store k.state (model_by (kept_after (slots_of i₀) cs))
  pub size_kept : length k.store ≡ length i₀.store
  pub tail_kept : tail_of k ≡ tail_of i₀

-- of the answers only refusal 7 depends on the cut: one call on two stores that hold one ledger
pub data OneAnswer (s : Seen) (j : Lent) (t : Seen) (k : Lent) : Type 0 where
  one_answer : s ≡ t → ledger_by j ≡ ledger_by k → OneAnswer s j t k
  first_seven : s.code ≡ 7 → OneAnswer s j t k
  second_seven : t.code ≡ 7 → OneAnswer s j t k

-- demand 3: a save of the ledger l, the out-parameter holding len: 15 where the fresh cut needs over 64 nodes, 8 where the output is
-- shorter than the snapshot, else exactly the snapshot, its length, and the bytes after it as they were
abbrev pub save_seen : ℕ → List ℕ → Ledger → Seen
save_seen len out l =
    let f = snapshot_of l in
    pick (leb (length (fresh_cut l.messages)) 64)
    (pick (leb (length f) (length out)) (seen 0 (length f ∷ []) (f ++ drop (length f) out)) (seen 8 (len ∷ []) out))
    (seen 15 (len ∷ []) out)

-- what an accepted call wrote, a save its file: so many bytes of the output
abbrev pub file_in : Seen → List ℕ
file_in s = take (get_or s.values 0 0) s.output

-- what is seen of the call after these
pub record SeenAt (cs : List Call) (x : Seen) (ss : List Seen) : Type 0 where
  pub first : List Seen
  pub later : List Seen
  pub seen_are : ss ≡ first ++ (x ∷ later)
  pub as_many : length first ≡ length cs

-- the file is the snapshot of this ledger, whose nodes, freshly cut, fit the store of at least 4,096 bytes
pub record Fits (file : List ℕ) (i : Lent) (l : Ledger) : Type 0 where
  pub is_ledger_lem : is_ledger l ≡ true
  pub few_nodes : length (fresh_cut l.messages) ≤ 64
  pub bytes : file ≡ snapshot_of l
  pub has_slot_lem : 4096 ≤ length i.store
  pub fits : length (fresh_cut l.messages) ≤ slots_of i

-- and the store then holds that ledger, with its fresh cut
pub record Loaded (file : List ℕ) (i j : Lent) : Type 0 where
  pub ledger : Ledger
  pub fits : Fits file i ledger
  pub holds : ledger_by j ≡ Some ledger
  pub cut_is : held_by j ≡ Some (loaded ledger)
  pub size_kept : length j.store ≡ length i.store
  pub tail_kept : tail_of j ≡ tail_of i

-- demand 3: whatever the lent store held, load accepts a file exactly when it fits; otherwise every byte is kept
pub record Loads (file : List ℕ) (i : Lent) (s : Seen) (j : Lent) : Type 0 where
  pub accepts : (l : Ledger) → Fits file i l → s.code ≡ 0
  pub accepted : s.code ≡ 0 → Loaded file i j
  pub refused : (s.code ≡ 0 → ⊥) → j ≡ i

-- demand 2: in each group a pending ID has exactly one consumer, and it is one of the group's
pub record OneConsumer (g : Group) (p : Pending) : Type 0 where
  pub only : (q : Pending) → Memᴰ q g.pending → q.id ≡ p.id → q ≡ p
  pub among : is_among p.consumer g.consumers ≡ true

-- demand 1: a refusal answers its number only, and every byte is kept: out-parameters, output, store and state. 35 is no refusal: it is
-- a report's answer and writes to out-parameters
pub record Refuses (c : Call) (i : Lent) (s : Seen) (j : Lent) : Type 0 where
  pub seen_is : (s.code ≡ 35 → ⊥) → s ≡ seen s.code c.values c.output
  pub output_kept : s.output ≡ c.output
  pub kept : j ≡ i

-- demand 1: all calls of a list, set up and load aside, on a store that is no image: 2, and nothing is written
abbrev pub NoneHeals : List Call → Type 0
NoneHeals [] = Unit {0}
NoneHeals (c ∷ cs) = (heals (command_of c) ≡ false) × NoneHeals cs

abbrev pub twos : List Call → List Seen
twos [] = []
twos (c ∷ cs) = seen 2 c.values c.output ∷ twos cs

-- 02, CR 1: the batch read of n IDs, its out-parameter holding len; and single reads in a row, as many as `olds`, which are any two
-- numbers that the out-parameters of each held before
abbrev pub read_many : List ℕ → List ℕ → ℕ → ℕ → ℕ → List ℕ → Call
read_many name consumer time n len out = call (λ room. on_stream (in_group name (group_read_many consumer time n room))) (len ∷ []) out

abbrev pub single_reads : List ℕ → List ℕ → ℕ → List Id → List Call
single_reads name consumer time [] = []
single_reads name consumer time (o ∷ olds) =
    plain (in_group name (group_read consumer time)) (o.ms ∷ (o.seq ∷ [])) ∷ single_reads name consumer time olds

-- each is answered with an ID
abbrev pub seen_ids : List Id → List Seen
seen_ids [] = []
seen_ids (i ∷ is) = seen 0 (i.ms ∷ (i.seq ∷ [])) [] ∷ seen_ids is

-- a batch read that is accepted, on a store i that holds the ledger l: how many IDs, what is written, and that so many single reads
-- on i instead answer these IDs and leave the same bytes
pub record ReadsMany (name consumer : List ℕ) (time n : ℕ) (out : List ℕ) (l : Ledger) (i : Lent) (s : Seen) (j : Lent) : Type 0 where
  pub group : Group
  pub ids : List Id
  pub found : find_group name l.groups ≡ Some group
  pub smallest : length ids ≡ min n (min (length (ids_after group.delivered l.messages)) (most_pending - length group.pending))
  pub sees : s ≡ seen 0 (16 * length ids ∷ []) (ids_bytes ids ++ drop (16 * length ids) out)
  pub singles : (olds : List Id) (ss : List Seen) (k : Lent) → length olds ≡ length ids → Made (single_reads name consumer time olds) i ss k
      → (ss ≡ seen_ids ids) × (k ≡ j)

-- so many single reads in the place of a batch read in a list: its IDs, and what is then seen, the others' answers as they were
pub record InPlace (out : List ℕ) (x : Seen) (first later ts : List Seen) : Type 0 where
  pub ids : List Id
  pub sees : x ≡ seen 0 (16 * length ids ∷ []) (ids_bytes ids ++ drop (16 * length ids) out)
  pub seen_are : ts ≡ first ++ (seen_ids ids ++ later)

-- 02, CR 2: the report of a ledger; the call for it, its out-parameters holding `olds`; and what is seen of it: with no integer 35 and
-- four numbers, so that smallest and largest keep what they held
abbrev pub report_in : List ℕ → Id → Id → Ledger → Report
report_in name first last l = report_on name no_messages (between first last l.messages)

abbrev pub report_call : List ℕ → Id → Id → List ℕ → Call
report_call name first last olds = plain (asks (report name first last)) olds

abbrev pub counts_seen : List ℕ → ℕ → ℕ → Option Integers → Seen
counts_seen olds lacking other None = seen 35 (over (lacking ∷ (other ∷ (0 ∷ (0 ∷ [])))) olds) []
counts_seen olds lacking other (Some x) =
    seen 0 (over (lacking ∷ (other ∷ (x.count ∷ (pattern_by x.sum ∷ (pattern_by x.smallest ∷ (pattern_by x.largest ∷ [])))))) olds) []

abbrev pub report_seen : List ℕ → Report → Seen
report_seen olds r = counts_seen olds r.lacking r.other r.integers

-- a report on a store i that holds the ledger l: every message of the range is in one of the three counts; the sum is at most
-- 6,400,000,000,000 from 0, and what is seen of it, of the smallest and of the largest stands for just that number
pub record Reports (name : List ℕ) (first last : Id) (olds : List ℕ) (l : Ledger) (i : Lent) (s : Seen) (j : Lent) : Type 0 where
  pub sees : s ≡ report_seen olds (report_in name first last l)
  pub kept : j ≡ i
  pub counts : counts_of (report_in name first last l) ≡ length (between first last l.messages)
  pub exact : (x : Integers) → (report_in name first last l).integers ≡ Some x → Exact x
  pub empty : below last first ≡ true → between first last l.messages ≡ []

-- three reports on a store that holds l: from a to b, from the ID d that follows b to c, and from a to c, which is the two joined
pub record Joins (name : List ℕ) (a b c d : Id) (l : Ledger) (xs ys zs : List ℕ) (s t u : Seen) : Type 0 where
  pub first_sees : s ≡ report_seen xs (report_in name a b l)
  pub second_sees : t ≡ report_seen ys (report_in name d c l)
  pub whole_sees : u ≡ report_seen zs (joined (report_in name a b l) (report_in name d c l))

-- 02, CR 4: the call for the range reply, its out-parameter holding len; on a store i that holds the ledger l it is refused with 8 exactly
-- where the output is shorter, and what it wrote reads back as the live messages in the range: by wallathi_read_reply their number, by
-- wallathi_reply_message each of them, and 32 past the end
abbrev pub range_call : Id → Id → ℕ → List ℕ → Call
range_call first last len out = call (λ room. on_stream (asks (range_reply first last room))) (len ∷ []) out

pub record RangeReplies (first last : Id) (len : ℕ) (out : List ℕ) (l : Ledger) (i : Lent) (s : Seen) (j : Lent) : Type 0 where
  pub sees : s ≡ tell_to (len ∷ []) out (writes (length out) (range_bytes (between first last l.messages)))
  pub kept : j ≡ i
  pub parsed : s.code ≡ 0 → parse_reply (file_in s) ≡ Some (range (between first last l.messages))
  pub counts : s.code ≡ 0 → (olds : List ℕ)
      → read_seen olds (parse_reply (file_in s)) ≡ seen 0 (over (1 ∷ (length (between first last l.messages) ∷ [])) olds) []
  pub gives : s.code ≡ 0 → (place : ℕ) (olds to : List ℕ)
      → place_seen place olds to (parse_reply (file_in s)) ≡ message_seen olds to (message_at place (between first last l.messages))

-- arguments as C can pass them: IDs and times of 64 bits, bytes (of names and files this is known by what the commands test)
abbrev pub PassesGroup : GroupCommand → Type 0
PassesGroup (group_read consumer time) = time < 2 ^ 64
PassesGroup (group_read_many consumer time n room) = time < 2 ^ 64
PassesGroup (acknowledge i) = Unit {0}
PassesGroup (claim consumer idle i time) = time < 2 ^ 64
PassesGroup (next_pending consumer i) = Unit {0}
PassesGroup (drop_consumer consumer) = Unit {0}

abbrev pub PassesStream : Stream.Command → Type 0
PassesStream set_up = Unit {0}
PassesStream (add i s) = Fits64 i × Bytes s
PassesStream (add_by_clock time s) = (time < 2 ^ 64) × Bytes s
PassesStream (delete i) = Unit {0}
PassesStream (trim k) = Unit {0}
PassesStream (create_group name start) = Fits64 start
PassesStream (destroy_group name) = Unit {0}
PassesStream (asks q) = Unit {0}
PassesStream (in_group name c) = PassesGroup c

abbrev pub Passes : Command → Type 0
Passes (on_stream c) = PassesStream c
Passes (save room) = Unit {0}
Passes (load file) = Unit {0}

abbrev pub AllPass : List Call → Type 0
AllPass [] = Unit {0}
AllPass (c ∷ cs) = Passes (command_of c) × AllPass cs

-- a list of calls that were made
pub record SomeRun (cs : List Call) (i : Lent) : Type 0 where
  pub seen : List Seen
  pub after : Lent
  pub made : Made cs i seen after
  pub bytes : AreBytes after

-- on a store that was set up, whatever it held before
pub record FreshRun (cs : List Call) (i₀ : Lent) : Type 0 where
  pub told : Seen
  pub begun : Lent
  pub sets_up : Meets (plain set_up []) i₀ told begun
  pub code_is : told.code ≡ 0
  pub run_on : SomeRun cs begun

-- the claim: what was ordered (00) and requested (02), word for word, and that it is not said of nothing
pub record Demands : Type 0 where
  -- "From a fresh store, every sequence of commands answers as the plain ledger does with its cut beside it, refusals included, and the
  -- stored listpacks hold that ledger by the published encoding"; "the store after it holds the ledger that document 01 works out from
  -- the list". The store may have held any bytes i₀ before it was set up.
  pub every_list : (cs : List Call) (i k : Lent) (ss : List Seen) (i₀ : Lent) (s : Seen) → Meets (plain set_up []) i₀ s i → s.code ≡ 0
      → Made cs i ss k → AsLedger i₀ cs ss k
  -- "Ledger and cut follow from the commands, their arguments and the number of slots alone" (01): one list on two stores
  pub equal_lists : (cs : List Call) (i j k l : Lent) (ss ts : List Seen) (i₀ j₀ : Lent) (s t : Seen) → slots_of i₀ ≡ slots_of j₀
      → Meets (plain set_up []) i₀ s i → s.code ≡ 0 → Made cs i ss k → Meets (plain set_up []) j₀ t j → t.code ≡ 0 → Made cs j ts l
      → (ss ≡ ts) × (held_by k ≡ held_by l)
  -- "Of the answers only refusal 7 depends on" the cut (01): one call on two stores, reached or handed in, that hold one ledger
  pub only_seven : (j l : Lent) (s t : Seen) (c : Call) (i k : Lent) (m n : Model) → Meets c i s j → Meets c k t l → held_by i ≡ Some m
      → held_by k ≡ Some n → slots_of i ≡ slots_of k → ledger_of m ≡ ledger_of n → OneAnswer s j t l
  -- "A save is refused exactly as document 01's table says, and every save that is accepted writes exactly the snapshot of the ledger its
  -- store holds": on any store that holds a ledger, reached or handed in; it keeps every byte of store and state
  pub save_exact : (i j : Lent) (s : Seen) (len : ℕ) (out : List ℕ) (l : Ledger) → Meets (call save (len ∷ []) out) i s j → ledger_by i ≡ Some l
      → (s ≡ save_seen len out l) × (j ≡ i)
  -- and anywhere in a list
  pub save_in_list : (cs ds : List Call) (i k : Lent) (ss : List Seen) (i₀ : Lent) (s : Seen) (len : ℕ) (out : List ℕ) → Meets (plain set_up []) i₀ s i
      → s.code ≡ 0 → Made (cs ++ (call save (len ∷ []) out ∷ ds)) i ss k → SeenAt cs (save_seen len out (kept_after (slots_of i₀) cs).ledger) ss
  -- "Any two stores whose saves are accepted, reached by any two such lists or handed in, hold the same ledger exactly when their snapshots
  -- are equal byte for byte"
  pub same_snapshots : (i j k l : Lent) (s t : Seen) (m n : ℕ) (out place : List ℕ) → Meets (call save (m ∷ []) out) i s j
      → Meets (call save (n ∷ []) place) k t l → s.code ≡ 0 → t.code ≡ 0
      → (file_in s ≡ file_in t → ledger_by i ≡ ledger_by k) × (ledger_by i ≡ ledger_by k → file_in s ≡ file_in t)
  -- "Whatever the lent store held, the loader accepts a file exactly when it is the snapshot of some ledger whose nodes, freshly cut, fit
  -- that store of at least 4,096 bytes, and the store then holds that ledger"; otherwise every byte is kept
  pub load_exact : (file : List ℕ) (i j : Lent) (s : Seen) → Meets (call (λ _. load file) [] []) i s j → Loads file i s j
  -- "In each group a pending ID has exactly one consumer": in every group of every store that holds a ledger
  pub one_consumer : (i : Lent) (m : Model) (g : Group) (p : Pending) → held_by i ≡ Some m → Memᴰ g m.groups → Memᴰ p g.pending
      → OneConsumer g p
  -- "A field that a message lacks reads as absent, never as zero or empty": 33, and nothing is written, in the output, the store or the
  -- state
  pub absent_field : (i j : Lent) (s : Seen) (id : Id) (name : List ℕ) (len : ℕ) (out : List ℕ) (l : Ledger) (x : Message)
      → Meets (call (λ n. on_stream (asks (field id name n))) (len ∷ []) out) i s j → ledger_by i ≡ Some l → find_message id l.messages ≡ Some x
      → length name ≤ 1000 → value_of name x.pairs ≡ None → (s ≡ seen 33 (len ∷ []) out) × (j ≡ i)
  -- "It delivers the smallest of n, the live messages above last delivered, and the free pending entries, and equals that many single
  -- reads in a row" (02, CR 1): on any store that holds a ledger, reached or handed in
  pub batch_exact : (i j : Lent) (s : Seen) (name consumer : List ℕ) (time n len : ℕ) (out : List ℕ) (l : Ledger)
      → Meets (read_many name consumer time n len out) i s j → ledger_by i ≡ Some l → s.code ≡ 0 → ReadsMany name consumer time n out l i s j
  -- and anywhere in a list: with so many single reads in its place the other answers are the same, and so is what is held in the end
  pub batch_in_list : (cs ds : List Call) (i j k l : Lent) (ss ts : List Seen) (i₀ j₀ : Lent) (s t x : Seen) (name consumer : List ℕ) (time n len : ℕ)
      (out : List ℕ) (olds : List Id) → slots_of i₀ ≡ slots_of j₀ → Meets (plain set_up []) i₀ s i → s.code ≡ 0
      → Made (cs ++ (read_many name consumer time n len out ∷ ds)) i ss k → Meets (plain set_up []) j₀ t j → t.code ≡ 0
      → Made (cs ++ (single_reads name consumer time olds ++ ds)) j ts l → (p : SeenAt cs x ss) → x.code ≡ 0 → x.values ≡ 16 * length olds ∷ []
      → InPlace out x p.first p.later ts × (held_by k ≡ held_by l)
  -- "For a field name and an ID range, report over the live messages in it, ends included: how many lack the field, how many hold, in the
  -- first pair of that name, something other .., how many hold such an integer, and of these the sum, smallest and largest. With none
  -- there is no smallest or largest, and the answer says so"; "a first above the last means an empty range" (02, CR 2): on any store that
  -- holds a ledger, reached or handed in, of which every byte is kept
  pub report_exact : (i j : Lent) (s : Seen) (name : List ℕ) (first last : Id) (olds : List ℕ) (l : Ledger) → Meets (report_call name first last olds) i s j
      → ledger_by i ≡ Some l → length name ≤ 1000 → Reports name first last olds l i s j
  -- and the reports over two halves of a range add up to the report over the whole
  pub report_parts : (i j k n : Lent) (s t u : Seen) (name : List ℕ) (a b c d : Id) (xs ys zs : List ℕ) (l : Ledger)
      → Meets (report_call name a b xs) i s j → Meets (report_call name d c ys) i t k → Meets (report_call name a c zs) i u n → ledger_by i ≡ Some l
      → length name ≤ 1000 → following_of b ≡ Some d → at_most a b ≡ true → at_most b c ≡ true → Joins name a b c d l xs ys zs s t u
  -- "Write the range reply (ends included)"; "what is written reads back" (02, CR 4): on any store that holds a ledger, reached or handed in,
  -- of which every byte is kept
  pub range_exact : (i j : Lent) (s : Seen) (first last : Id) (len : ℕ) (out : List ℕ) (l : Ledger) → Meets (range_call first last len out) i s j
      → ledger_by i ≡ Some l → RangeReplies first last len out l i s j
  -- "It accepts exactly what is written for some list, however long, of messages that 01 allows live in rising ID order, some such integer
  -- or refusal number" (02, CR 4): of any bytes
  pub reply_exact : (s : List ℕ) (x : Reply) → Bytes s
      → (parse_reply s ≡ Some x → (s ≡ reply_bytes x) × (is_reply x ≡ true))
      × (length s < 2 ^ 64 → s ≡ reply_bytes x → is_reply x ≡ true → parse_reply s ≡ Some x)
  -- "Whatever document 01 refuses .. gets that document's number, and the store and the output keep all their bytes": whatever a call
  -- answers but 0, so none, nothing new, absent and not moved (32, 33, 34) too; of 35 `report_exact` says which numbers are written
  pub refused_keeps : (c : Call) (i j : Lent) (s : Seen) → Meets c i s j → 1 ≤ s.code → Refuses c i s j
  -- ".. damaged stores included where it says so": a store that is no image, until it is set up or loaded
  pub damaged : (cs : List Call) (i k : Lent) (ss : List Seen) → Made cs i ss k → held_by i ≡ None → NoneHeals cs → (ss ≡ twos cs) × (k ≡ i)
  -- none of this is said of nothing: whatever a store of at least 4,096 bytes held, there is such a list of promises kept, from set up on,
  -- for every list of calls with arguments that C can pass; and so there is from any bytes
  pub fresh_run : (cs : List Call) (i₀ : Lent) → AreBytes i₀ → 4096 ≤ length i₀.store → AllPass cs → FreshRun cs i₀
  pub some_run : (cs : List Call) (i : Lent) → AreBytes i → AllPass cs → SomeRun cs i
