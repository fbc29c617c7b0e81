-- The returns of find: 3, 16, and the report over every message of the file. Assumes nothing.
use mathlib.Core.Path.{◌≡◌, refl, sym, ap, ◌∙◌, subst}
use mathlib.Core.Bool.{true, false}
use mathlib.Core.List.{List, [], ◌∷◌}
use Rattle.std.proofs.Common.{Option, Some, None}
use Prim.Native.Nat.{ℕ, ◌*◌, ◌≤◌, ◌<◌}
use native.Mathlib.Omega.{arith}
use lib.ListN.{length}
use borrow.Author.Tests.{le-leb, lt-leb}
use Rattle.refusal.specs.declared.Refusal.TheVariants.{BadArgument, NoSnapshot}
use Rattle.octets.proofs.Laws.{never}
use Rattle.id.specs.declared.Id.{Id}
use Rattle.id.specs.Id.{least, greatest, at_most}
use Rattle.id.proofs.Laws.{least_at_most, at_most_greatest, at_most_trans, id_fits}
use Rattle.node.specs.Message.{Message}
use Rattle.stream.specs.declared.Reply.{Reply}
use Rattle.stream.specs.declared.Reply.TheVariants as reply
use Rattle.stream.specs.Ledger.{Ledger, messages_above, is_ledger}
use Rattle.stream.specs.Report.{between, no_messages, report_on}
use Rattle.stream.specs.Command.{asks, report}
use Rattle.stream.specs.LedgerStep.{report_reply, reply_to}
use Rattle.stream.specs.Reply.{reply_of}
use Rattle.stream.specs.Step.{Step, step}
use Rattle.stream.specs.Cut.{Model, slots_in, ledger_of}
use Rattle.stream.specs.Promise.{lent, held_by, slots_of, Shows, Follows, FollowsBy}
use Rattle.stream.proofs.Laws.{first_message, fresh_messages, step_asks, ledger_rules}
use Rattle.snapshot.specs.Parse.{parse_snapshot}
use Rattle.snapshot.specs.Command.{Loading, refusing, loading, loaded, loads}
use Rattle.snapshot.specs.Promise.{Loads, LoadsBy}
use Rattle.snapshot.proofs.Laws.{parse_snapshot_lem, load_no_snapshot, load_fits}
use Rattle.report.specs.Printed.{Finding, finding_by, finding_in}
use Rattle.report.specs.Written.{answer_of, is_done}

-- every message is in the range from the least ID to the greatest
between_all : (i end : Id) (ms : List Message) → at_most end greatest ≡ true → messages_above i end ms ≡ true → between least greatest ms ≡ ms
unfolding between
between_all i end [] g h = refl
between_all i end (m ∷ ms) g h =
    let f = first_message i end m ms h in
    rw (least_at_most m.id, at_most_trans m.id end greatest f.up_to_lem g) (ap (λ (l : List Message). m ∷ l) (between_all m.id end ms g f.others))

messages_all : (l : Ledger) → is_ledger l ≡ true → between least greatest l.messages ≡ l.messages
messages_all l e =
    let r = ledger_rules l e in
    between_all least l.last l.messages (at_most_greatest l.last (id_fits l.last r.last_fits)) r.messages_are

-- what the ledger answers to the report over all IDs
report_reply_lem : (name : List ℕ) → length name ≤ 1000 → (l : Ledger) → is_ledger l ≡ true
    → reply_to (report name least greatest) (ledger_of (loaded l)) ≡ report_reply (report_on name no_messages l.messages)
report_reply_lem name h l e = rw (le-leb (length name) 1000 h, fresh_messages l.messages, messages_all l e)

-- a name is not over 1,000 bytes, or it is
name_fits : (file name : List ℕ) → length name ≤ 1000 → finding_in file name ≡ finding_by name (parse_snapshot file)
unfolding finding_in
name_fits file name h = rw (le-leb (length name) 1000 h)

pub name_over : (file name : List ℕ) → 1000 < length name → reply.Refused BadArgument ≡ reply_of (answer_of (finding_in file name))
unfolding finding_in
name_over file name h = rw (lt-leb (length name) 1000 h)

-- 64 slots: a file that is a snapshot is loaded
abbrev loading_for : Option Ledger → Loading
loading_for None = refusing NoSnapshot
loading_for (Some l) = loading l

loads_all : (file : List ℕ) (o : Option Ledger) → parse_snapshot file ≡ o → loads 64 file ≡ loading_for o
loads_all file None e = load_no_snapshot 64 file (λ z. omega arith) e
loads_all file (Some l) e = load_fits 64 file (λ z. omega arith) l e (parse_snapshot_lem file l e).few_nodes

module _ (file name : List ℕ) (h : length name ≤ 1000) (store state after exit : List ℕ) (n : length store ≡ 64 * 4096) (r : Reply)
    (q : Loads reply_of file (lent store state) r (lent after exit)) where
  loaded_by : (o : Option Ledger) → parse_snapshot file ≡ o → LoadsBy reply_of (loading_for o) (lent store state) r (lent after exit)
  loaded_by o e =
      subst (λ (x : Loading). LoadsBy reply_of x (lent store state) r (lent after exit)) (ap (λ (k : ℕ). loads (slots_in k) file) n ∙ loads_all file o e) q

  -- 16
  pub not_loaded : is_done r ≡ false → reply.Refused NoSnapshot ≡ reply_of (answer_of (finding_in file name))
  not_loaded d = by (parse_snapshot file) refl (loaded_by (parse_snapshot file) refl)
    where
      by : (o : Option Ledger) → parse_snapshot file ≡ o → LoadsBy reply_of (loading_for o) (lent store state) r (lent after exit)
          → reply.Refused NoSnapshot ≡ reply_of (answer_of (finding_in file name))
      by None e x = sym (ap (λ (f : Finding). reply_of (answer_of f)) (name_fits file name h ∙ ap (finding_by name) e))
      by (Some l) e x = absurd (never (ap is_done x.told_is) d)

  -- the ledger that the store then holds is the file's
  report_told : (l : Ledger) → parse_snapshot file ≡ Some l → held_by (lent after exit) ≡ Some (loaded l)
      → (t : Reply) → Follows reply_of (asks (report name least greatest)) (lent after exit) t (lent after exit) → t ≡ reply_of (answer_of (finding_in file name))
  report_told l e k t f =
      let i = lent after exit in
      let c = asks (report name least greatest) in
      let s : Shows reply_of (step (slots_of i) c (loaded l)) (loaded l) i t i = subst (λ (o : Option Model). FollowsBy reply_of c o i t i) k f in
      s.told_is
      ∙ ap (λ (x : Step). reply_of x.answer) (step_asks (slots_of i) (report name least greatest) (loaded l))
      ∙ ap reply_of (report_reply_lem name h l (parse_snapshot_lem file l e).is_ledger_lem)
      ∙ sym (ap (λ (x : Finding). reply_of (answer_of x)) (name_fits file name h ∙ ap (finding_by name) e))

  pub is_loaded : is_done r ≡ true → (t : Reply) → Follows reply_of (asks (report name least greatest)) (lent after exit) t (lent after exit)
      → t ≡ reply_of (answer_of (finding_in file name))
  is_loaded d t f = by (parse_snapshot file) refl (loaded_by (parse_snapshot file) refl)
    where
      by : (o : Option Ledger) → parse_snapshot file ≡ o → LoadsBy reply_of (loading_for o) (lent store state) r (lent after exit)
          → t ≡ reply_of (answer_of (finding_in file name))
      by None e x = absurd (never d (ap is_done x.0))
      by (Some l) e x = report_told l e x.holds t f
