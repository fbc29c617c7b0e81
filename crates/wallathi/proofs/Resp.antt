-- Replies in RESP2 among calls (02, CR 4): what is told of those from a number and of one that is read, and that a range reply reads back.
-- Assumes nothing.
use mathlib.Core.Path.{◌≡◌, refl, sym, ap, ap₂, ◌∙◌, subst}
use mathlib.Core.Bool.{Bool, true, false}
use mathlib.Core.List.{List, [], ◌∷◌}
use Rattle.std.proofs.Common.{Option, Some, None, Result, Ok, Err}
use Prim.Native.Nat.{ℕ, ◌≤◌, ◌<◌, ◌^◌}
use native.Mathlib.Omega.{arith}
use lib.Dec.{leb}
use lib.ListN.{length}
use Rattle.refusal.specs.declared.Refusal.{Refusal}
use Rattle.refusal.specs.declared.Refusal.TheVariants.{BadArgument, ShortOutput}
use Rattle.octets.specs.Pick.{pick}
use Rattle.octets.specs.Bytes.{Bytes}
use Rattle.octets.specs.Place.{put}
use Rattle.id.specs.declared.Id.{Id}
use Rattle.id.specs.Id.{least}
use Rattle.slip.specs.Slip.{slip}
use Rattle.node.specs.Message.{Message}
use Rattle.resp.specs.Reply.{message_at, Reply, range, integer, error, range_bytes, reply_bytes, is_reply}
use Rattle.resp.specs.Parse.{parse_reply}
use Rattle.resp.specs.Answer.{replied_by, output_by}
use Rattle.resp.proofs.Laws.{reply_is, range_here, reply_here}
use Rattle.resp_read.specs.Answer.{read_by, picked_message, picked_by, message_output, picked_output}
use Rattle.resp_read.specs.declared.reading.ReplyRead.{ReplyRead}
use Rattle.resp_read.specs.declared.message.Picked.{Picked}
use Rattle.stream.specs.Ledger.{Ledger, is_ledger}
use Rattle.stream.specs.Report.{between}
use Rattle.stream.specs.Command.{range_reply, written, refused}
use Rattle.stream.specs.LedgerStep.{writes}
use Rattle.stream.specs.Promise.{Lent, slots_of}
use Rattle.stream.proofs.Laws as laws
use Rattle.wallathi.specs.Export.{Seen, seen, over, tell_to}
use Rattle.wallathi.specs.Run.{Meets}
use Rattle.wallathi.specs.Replies.{number_seen, read_seen, message_seen, place_seen}
use Rattle.wallathi.specs.Telling.{code_in, length_in, seen_by, picked_seen}
use Rattle.wallathi.specs.Demands.{ledger_by, file_in, range_call, RangeReplies}
use Rattle.wallathi.proofs.Runs.{held_rules}
use Rattle.wallathi.proofs.Absent.{query_seen}
use Rattle.wallathi.proofs.Saves.{file_is}
use Rattle.wallathi.proofs.Reports.{held, query_keeps}

-- a reply from a number
module _ (rule : Bool) (bs out : List ℕ) (old : ℕ) where
  told : seen (code_in (replied_by rule bs (length out))) (length_in (replied_by rule bs (length out)) old ∷ []) (output_by rule bs out) ≡ number_seen rule bs (old ∷ []) out
  unfolding replied_by output_by
  told = by rule (leb (length bs) (length out))
    where
      by : (t u : Bool) → seen (code_in (pick t (pick u (Ok (length bs)) (Err ShortOutput)) (Err BadArgument))) (length_in (pick t (pick u (Ok (length bs)) (Err ShortOutput)) (Err BadArgument)) old ∷ []) (pick t (pick u (put out 0 bs) out) out)
          ≡ tell_to (old ∷ []) out (pick t (pick u (written bs) (refused ShortOutput)) (refused BadArgument))
      by true true = refl
      by true false = refl
      by false u = refl

  pub number_seen_lem : (r : Result ℕ Refusal) (code len : ℕ) (out2 : List ℕ) → r ≡ replied_by rule bs (length out) → out2 ≡ output_by rule bs out → code ≡ code_in r
      → len ≡ length_in r old → seen code (len ∷ []) out2 ≡ number_seen rule bs (old ∷ []) out
  number_seen_lem r code len out2 p q c l = rw (c, l, q, p) told

-- a reply that is read
read_told : (olds : List ℕ) (o : Option Reply) → seen_by (read_by o) olds ≡ read_seen olds o
read_told olds None = refl
read_told olds (Some (range ms)) = refl
read_told olds (Some (integer n)) = refl
read_told olds (Some (error n)) = refl

pub read_seen_lem : (olds : List ℕ) (o : Option Reply) (r x : Option ReplyRead) → r ≡ read_by o → r ≡ x → seen_by x olds ≡ read_seen olds o
read_seen_lem olds o r x p q = ap (λ (y : Option ReplyRead). seen_by y olds) (sym q ∙ p) ∙ read_told olds o

pub kind_seen : (k n code kind number : ℕ) → code ≡ 0 → kind ≡ k → number ≡ n → (s : Seen) → seen 0 (k ∷ (n ∷ [])) [] ≡ s → seen code (kind ∷ (number ∷ [])) [] ≡ s
kind_seen k n code kind number e f g s h = rw (e, f, g) h

-- a message of it
message_told : (olds out : List ℕ) (o : Option Message) → picked_seen (picked_message o (length out)) olds (message_output o out) ≡ message_seen olds out o
message_told olds out None = refl
message_told olds out (Some m) = by (leb (length (slip m.pairs)) (length out))
  where
    by : (t : Bool) → picked_seen (pick t (Ok (Some (record { id = m.id; size = length (slip m.pairs) }))) (Err ShortOutput)) olds (pick t (put out 0 (slip m.pairs)) out)
        ≡ pick t (seen 0 (over (m.id.ms ∷ (m.id.seq ∷ (length (slip m.pairs) ∷ []))) olds) (put out 0 (slip m.pairs))) (seen 8 olds out)
    by true = refl
    by false = refl

place_told : (place : ℕ) (olds out : List ℕ) (o : Option Reply) → picked_seen (picked_by o place (length out)) olds (picked_output o place out) ≡ place_seen place olds out o
place_told place olds out None = refl
place_told place olds out (Some (range ms)) = message_told olds out (message_at place ms)
place_told place olds out (Some (integer n)) = refl
place_told place olds out (Some (error n)) = refl

pub place_seen_lem : (place : ℕ) (olds out : List ℕ) (o : Option Reply) (r x : Result (Option Picked) Refusal) (out2 : List ℕ) → r ≡ picked_by o place (length out) → out2 ≡ picked_output o place out → r ≡ x
    → picked_seen x olds out2 ≡ place_seen place olds out o
place_seen_lem place olds out o r x out2 p q e = ap₂ (λ (y : Result (Option Picked) Refusal) (d : List ℕ). picked_seen y olds d) (sym e ∙ p) q ∙ place_told place olds out o

pub message_seen_lem : (i : Id) (n code ms seq len : ℕ) (out : List ℕ) → code ≡ 0 → ms ≡ i.ms → seq ≡ i.seq → len ≡ n → (s : Seen) → seen 0 (i.ms ∷ (i.seq ∷ (n ∷ []))) out ≡ s
    → seen code (ms ∷ (seq ∷ (len ∷ []))) out ≡ s
message_seen_lem i n code ms seq len out e f g k s h = rw (e, f, g, k) h

-- what was written, if it was
wrote : (len : ℕ) (out bs : List ℕ) (s : Seen) → s ≡ tell_to (len ∷ []) out (writes (length out) bs) → s.code ≡ 0 → file_in s ≡ bs
wrote len out bs s e z = by (leb (length bs) (length out)) e
  where
    by : (t : Bool) → s ≡ tell_to (len ∷ []) out (pick t (written bs) (refused ShortOutput)) → file_in s ≡ bs
    by true q = ap file_in q ∙ file_is len out bs
    by false q = absurd (let y : 8 ≡ 0 = sym (ap (λ (x : Seen). x.code) q) ∙ z in omega arith)

pub range_exact : (i j : Lent) (s : Seen) (first last : Id) (len : ℕ) (out : List ℕ) (l : Ledger) → Meets (range_call first last len out) i s j
    → ledger_by i ≡ Some l → RangeReplies first last len out l i s j
range_exact i j s first last len out l d e =
    held i l e λ m q p.
    let ms : List Message = between first last l.messages in
    let k = held_rules i m q in
    let few : length l.messages ≤ 6400 = subst (λ (x : Ledger). length x.messages ≤ 6400) p (laws.most_messages (slots_of i) m k (omega arith)) in
    let rise = (laws.ledger_rules l (subst (λ (x : Ledger). is_ledger x ≡ true) p (laws.model_ledger (slots_of i) m k))).messages_are in
    let there : parse_reply (range_bytes ms) ≡ Some (range ms) =
    range_here ms (omega (arith, laws.few_between first last l.messages)) (laws.range_live first last least l.last l.messages rise) in
    let sees : s ≡ tell_to (len ∷ []) out (writes (length out) (range_bytes ms)) = query_seen (range_reply first last (length out)) (len ∷ []) out i j s l d.does e in
    let parsed : s.code ≡ 0 → parse_reply (file_in s) ≡ Some (range ms) = λ z. ap parse_reply (wrote len out (range_bytes ms) s sees z) ∙ there in
    record {
      sees = sees;
      kept = query_keeps (range_reply first last (length out)) (len ∷ []) out i j s m q d.does;
      parsed = parsed;
      counts = λ z olds. ap (read_seen olds) (parsed z);
      gives = λ z place olds to. ap (place_seen place olds to) (parsed z);
    }

pub reply_exact : (s : List ℕ) (x : Reply) → Bytes s
    → (parse_reply s ≡ Some x → (s ≡ reply_bytes x) × (is_reply x ≡ true)) × (length s < 2 ^ 64 → s ≡ reply_bytes x → is_reply x ≡ true → parse_reply s ≡ Some x)
reply_exact s x b = (reply_is s x b, λ h e r. ap parse_reply e ∙ reply_here x (omega (arith, ap length e)) r)
