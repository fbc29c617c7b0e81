-- A written answer fits the command's output, and only a command with an output is answered so. Assumes nothing.
use mathlib.Core.Path.{◌≡◌, refl}
use mathlib.Core.List.{List}
use Prim.Native.Nat.{ℕ, ◌*◌, ◌≤◌}
use native.Mathlib.Omega.{arith}
use lib.Dec.{leb, eqb}
use lib.ListN.{length}
use borrow.Author.Tests.{leb-true}
use Rattle.std.proofs.Common.{is_none, Option, Some, None}
use Rattle.refusal.specs.declared.Refusal.{Refusal}
use Rattle.refusal.specs.declared.Refusal.TheVariants.{BadArgument, LongMessage, Full, ShortOutput, GroupExists, MostGroups, MostConsumers, MostPending, MostNodes}
use Rattle.octets.proofs.Laws.{pick_by}
use Rattle.id.specs.declared.Id.{Id}
use Rattle.id.specs.Id.{below}
use Rattle.slip.specs.Slip.{slip, parse_slip}
use Rattle.node.specs.Message.{Pair, Message, message}
use Rattle.node.specs.Step.{fits_alone, find_message, first_from, first_after, value_of}
use Rattle.resp.specs.Reply.{range_bytes}
use Rattle.groups.specs.Group.{Pending, Group, most_pending}
use Rattle.groups.specs.Area.{most_groups}
use Rattle.groups.specs.Step as Groups
use Rattle.stream.specs.Ledger.{Ledger}
use Rattle.stream.specs.Report.{Integers, between, no_messages, report_on}
use Rattle.stream.specs.Cut.{fresh_cut}
use Rattle.stream.specs.Command as Stream
use Rattle.stream.specs.Command.{Answer, refused, done, given, counted, written, entry, reported, no_integers, moved, nothing, absent, not_moved}
use Rattle.stream.specs.LedgerStep.{LedgerStep, Beside, GroupStep, refuses, leaves, on_set_up, add_as, on_add, clock_id, add_following, on_add_by_clock, on_delete, on_trim, id_reply, writes, read_reply, value_reply, field_reply, report_by, report_reply, reply_to, on_create, on_destroy, delivers, batch, acknowledges, claims, pending_reply, on_group, name_refusal, batch_refusal, argument_refusal, request_refusal, in_ledger, ruled, ledger_step}
use Rattle.stream.proofs.Laws.{second_kept, length_ids, length_batch, batch_room, many_by}
use Rattle.snapshot.specs.Bytes.{snapshot_of}
use Rattle.snapshot.specs.Command.{Command, on_stream, save, load, save_reply}

-- a written answer has so many bytes at most
abbrev pub Fits : ℕ → Answer → Type 0
Fits room (refused n) = Unit {0}
Fits room done = Unit {0}
Fits room (given i) = Unit {0}
Fits room (counted n) = Unit {0}
Fits room (written bs) = length bs ≤ room
Fits room (entry p lives) = Unit {0}
Fits room (reported l o x) = Unit {0}
Fits room (no_integers l o) = Unit {0}
Fits room moved = Unit {0}
Fits room nothing = Unit {0}
Fits room absent = Unit {0}
Fits room not_moved = Unit {0}

-- the length of a command's output; nothing where it has none
abbrev pub room_in : Stream.Query → ℕ
room_in (Stream.next i) = 0
room_in (Stream.read i room) = room
room_in (Stream.field i name room) = room
room_in (Stream.report name first last) = 0
room_in (Stream.range_reply first last room) = room

abbrev pub room_in_group : Stream.GroupCommand → ℕ
room_in_group (Stream.group_read consumer time) = 0
room_in_group (Stream.group_read_many consumer time n room) = room
room_in_group (Stream.acknowledge i) = 0
room_in_group (Stream.claim consumer least i time) = 0
room_in_group (Stream.next_pending consumer i) = 0
room_in_group (Stream.drop_consumer consumer) = 0

abbrev pub room_by : Stream.Command → ℕ
room_by Stream.set_up = 0
room_by (Stream.add i s) = 0
room_by (Stream.add_by_clock time s) = 0
room_by (Stream.delete i) = 0
room_by (Stream.trim k) = 0
room_by (Stream.create_group name start) = 0
room_by (Stream.destroy_group name) = 0
room_by (Stream.asks q) = room_in q
room_by (Stream.in_group name c) = room_in_group c

abbrev pub room_of : Command → ℕ
room_of (on_stream c) = room_by c
room_of (save room) = room
room_of (load file) = 0

-- the answers of commands without an output
abbrev Fit : LedgerStep → Type 0
Fit s = Fits 0 s.answer

writes_fit : (room : ℕ) (bs : List ℕ) → Fits room (writes room bs)
writes_fit room bs = pick_by (Fits room) (leb (length bs) room) (written bs) (refused ShortOutput) (λ e. leb-true (length bs) room e) (λ e. tt)

add_fits : (b : Beside) (m : Message) (l : Ledger) → Fit (add_as b m l)
unfolding add_as
add_fits b m l =
    pick_by Fit (fits_alone m) _ (refuses l LongMessage) (λ e. pick_by Fit b.full (refuses l Full) _ (λ f. tt) (λ f. tt)) (λ e. tt)

query_fits : (q : Stream.Query) (l : Ledger) → Fits (room_in q) (reply_to q l)
query_fits (Stream.next i) l = by (first_from i l.messages)
  where
    by : (o : Option Message) → Fits 0 (id_reply o)
    by None = tt
    by (Some m) = tt
query_fits (Stream.read i room) l = by (find_message i l.messages)
  where
    by : (o : Option Message) → Fits room (read_reply room o)
    by None = tt
    by (Some m) = writes_fit room (slip m.pairs)
query_fits (Stream.field i name room) l = pick_by (Fits room) (leb (length name) 1000) _ (refused BadArgument) (λ e. by (find_message i l.messages)) (λ e. tt)
  where
    value : (o : Option (List ℕ)) → Fits room (value_reply room o)
    value None = tt
    value (Some v) = writes_fit room v

    by : (o : Option Message) → Fits room (field_reply room name o)
    by None = tt
    by (Some m) = value (value_of name m.pairs)
query_fits (Stream.report name first last) l =
    let r = report_on name no_messages (between first last l.messages) in
    pick_by (Fits 0) (leb (length name) 1000) (report_reply r) (refused BadArgument) (λ e. by r.lacking r.other r.integers) (λ e. tt)
  where
    by : (l o : ℕ) (x : Option Integers) → Fits 0 (report_by l o x)
    by l o None = tt
    by l o (Some x) = tt
query_fits (Stream.range_reply first last room) l = writes_fit room (range_bytes (between first last l.messages))

abbrev FitsGroup : ℕ → GroupStep → Type 0
FitsGroup room s = Fits room s.answer

read_fits : (room : ℕ) (consumer : List ℕ) (time : ℕ) (o : Option Message) (g : Group) → FitsGroup room (delivers consumer time o g)
read_fits room consumer time None g = tt
read_fits room consumer time (Some m) g =
    pick_by (FitsGroup room) (Groups.lacks_consumer consumer g) (leaves (refused MostConsumers) g) _ (λ e. tt)
    (λ e. pick_by (FitsGroup room) (leb most_pending (length g.pending)) (leaves (refused MostPending) g) _ (λ f. tt) (λ f. tt))

group_fits : (c : Stream.GroupCommand) (ms : List Message) (g : Group) → argument_refusal c ≡ None → FitsGroup (room_in_group c) (on_group c ms g)
group_fits (Stream.group_read consumer time) ms g r = read_fits 0 consumer time (first_after g.delivered ms) g
group_fits (Stream.group_read_many consumer time n room) ms g r =
    let h : 16 * n ≤ room = (batch_room n room (second_kept (name_refusal consumer) (batch_refusal n room) r)).1 in
    many_by (FitsGroup room) consumer time n room ms g (read_fits room consumer time (first_after g.delivered ms) g)
    (λ e. omega (arith, length_ids (batch n ms g), length_batch n ms g))
group_fits (Stream.acknowledge i) ms g r = by (Groups.find_pending i g.pending)
  where
    by : (o : Option Pending) → Fits 0 (acknowledges i o g).answer
    by None = tt
    by (Some p) = tt
group_fits (Stream.claim consumer least i time) ms g r = by (Groups.find_pending i g.pending)
  where
    by : (o : Option Pending) → FitsGroup 0 (claims consumer least time o g)
    by None = tt
    by (Some p) =
        pick_by (FitsGroup 0) (leb least (Groups.idle time p.time)) _ (leaves not_moved g)
        (λ e. pick_by (FitsGroup 0) (Groups.lacks_consumer consumer g) (leaves (refused MostConsumers) g) _ (λ f. tt) (λ f. tt)) (λ e. tt)
group_fits (Stream.next_pending consumer i) ms g r = by (Groups.next_pending consumer i g)
  where
    by : (o : Option Pending) → Fits 0 (pending_reply ms o)
    by None = tt
    by (Some p) = tt
group_fits (Stream.drop_consumer consumer) ms g r = tt

ruled_fits : (room : ℕ) (o : Option Refusal) (l : Ledger) (s : LedgerStep) → (o ≡ None → Fits room s.answer) → Fits room (ruled o l s).answer
ruled_fits room None l s h = h refl
ruled_fits room (Some n) l s h = tt

pub stream_fits : (c : Stream.Command) (b : Beside) (l : Ledger) → Fits (room_by c) (ledger_step b c l).answer
unfolding on_set_up on_trim on_create
stream_fits Stream.set_up b l = pick_by Fit (eqb b.slots 0) _ _ (λ e. tt) (λ e. tt)
stream_fits (Stream.add i s) b l = by (parse_slip s)
  where
    by : (o : Option (List Pair)) → Fit (on_add b i o l)
    by None = tt
    by (Some ps) = pick_by Fit (below l.last i) (add_as b (message i ps) l) _ (λ e. add_fits b (message i ps) l) (λ e. tt)
stream_fits (Stream.add_by_clock time s) b l = by (parse_slip s)
  where
    next : (f : Option Id) (ps : List Pair) → Fit (add_following b f ps l)
    next None ps = tt
    next (Some i) ps = add_fits b (message i ps) l

    by : (o : Option (List Pair)) → Fit (on_add_by_clock b time o l)
    by None = tt
    by (Some ps) = next (clock_id time l.last) ps
stream_fits (Stream.delete i) b l = by (find_message i l.messages)
  where
    by : (o : Option Message) → Fit (on_delete i o l)
    by None = tt
    by (Some m) = tt
stream_fits (Stream.trim k) b l = tt
stream_fits (Stream.create_group name start) b l = ruled_fits 0 (name_refusal name) l (on_create name start l) (λ _. pick_by Fit (is_none (Groups.find_group name l.groups)) _ (refuses l GroupExists) (λ e. pick_by Fit (leb most_groups (length l.groups)) (refuses l MostGroups) _ (λ f. tt) (λ f. tt)) (λ e. tt))
stream_fits (Stream.destroy_group name) b l = ruled_fits 0 (name_refusal name) l (on_destroy name (Groups.find_group name l.groups) l) (λ _. by (Groups.find_group name l.groups))
  where
    by : (o : Option Group) → Fit (on_destroy name o l)
    by None = tt
    by (Some g) = tt
stream_fits (Stream.asks q) b l = query_fits q l
stream_fits (Stream.in_group name c) b l =
    ruled_fits (room_in_group c) (request_refusal name c) l (in_ledger l c (Groups.find_group name l.groups))
    (λ r. by (Groups.find_group name l.groups) (second_kept (name_refusal name) (argument_refusal c) r))
  where
    by : (o : Option Group) → argument_refusal c ≡ None → Fits (room_in_group c) (in_ledger l c o).answer
    by None r = tt
    by (Some g) r = group_fits c l.messages g r

pub save_fits : (room : ℕ) (l : Ledger) → Fits room (save_reply room l)
unfolding save_reply
save_fits room l = pick_by (Fits room) (leb (length (fresh_cut l.messages)) 64) _ (refused MostNodes) (λ e. writes_fit room (snapshot_of l)) (λ e. tt)
