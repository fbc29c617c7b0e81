-- A field that a message lacks. Assumes nothing.
use mathlib.Core.Path.{◌≡◌, ap, ◌∙◌}
use mathlib.Core.List.{List, [], ◌∷◌}
use Rattle.std.proofs.Common.{Option, Some, None, option_map}
use Prim.Native.Nat.{ℕ, ◌≤◌}
use native.Mathlib.Omega.{arith}
use lib.ListN.{length}
use borrow.Author.Tests.{le-leb}
use Rattle.octets.proofs.Laws.{some_is}
use Rattle.id.specs.declared.Id.{Id}
use Rattle.node.specs.Message.{Message}
use Rattle.node.specs.Step.{find_message, value_of}
use Rattle.stream.specs.Ledger.{Ledger}
use Rattle.stream.specs.Cut.{Model, ledger_of}
use Rattle.stream.specs.Command.{Query, field, asks, absent}
use Rattle.stream.specs.LedgerStep.{reply_to}
use Rattle.stream.specs.Promise.{Lent, held_by, slots_of}
use Rattle.stream.proofs.Laws.{answer_step}
use Rattle.snapshot.specs.Command.{on_stream, turn}
use Rattle.snapshot.specs.Promise.{Does}
use Rattle.wallathi.specs.Export.{Seen, seen, tell_to}
use Rattle.wallathi.specs.Run.{call, Meets}
use Rattle.wallathi.specs.Demands.{ledger_by}
use Rattle.wallathi.proofs.Turns.{does_turn}
use Rattle.wallathi.proofs.Refused.{refused_keeps}

-- a query is answered from the ledger that the store holds
pub query_seen : (q : Query) (values output : List ℕ) (i j : Lent) (s : Seen) (l : Ledger) → Does (tell_to values output) (on_stream (asks q)) i s j
    → ledger_by i ≡ Some l → s ≡ tell_to values output (reply_to q l)
query_seen q values output i j s l d e = by (held_by i) e (does_turn (tell_to values output) i j s (on_stream (asks q)) d).told_is
  where
    by : (o : Option Model) → option_map ledger_of o ≡ Some l → s ≡ tell_to values output (turn (slots_of i) (on_stream (asks q)) o).answer
        → s ≡ tell_to values output (reply_to q l)
    by None e h = absurd (let z : ◌≡◌ {A = ℕ} 0 1 = cc in omega arith)
    by (Some m) e h =
        h ∙ ap (tell_to values output) (answer_step (slots_of i) (asks q) m) ∙ ap (λ (x : Ledger). tell_to values output (reply_to q x)) (some_is e)

pub absent_field : (i j : Lent) (s : Seen) (id : Id) (name : List ℕ) (len : ℕ) (out : List ℕ) (l : Ledger) (x : Message)
    → Meets (call (λ n. on_stream (asks (field id name n))) (len ∷ []) out) i s j → ledger_by i ≡ Some l → find_message id l.messages ≡ Some x
    → length name ≤ 1000 → value_of name x.pairs ≡ None → (s ≡ seen 33 (len ∷ []) out) × (j ≡ i)
absent_field i j s id name len out l x d e f h v =
    let z : reply_to (field id name (length out)) l ≡ absent = rw (le-leb (length name) 1000 h, f, v) in
    let t : s ≡ seen 33 (len ∷ []) out = query_seen (field id name (length out)) (len ∷ []) out i j s l d.does e ∙ ap (tell_to (len ∷ []) out) z in
    let n : s.code ≡ 33 = ap (λ (y : Seen). y.code) t in
    (t, (refused_keeps (call (λ n. on_stream (asks (field id name n))) (len ∷ []) out) i j s d (omega arith)).kept)
