-- The channel report among calls (02, CR 2). Assumes nothing.
use mathlib.Core.Path.{◌≡◌, refl, ap, ◌∙◌, subst}
use mathlib.Core.Bool.{true}
use mathlib.Core.List.{List, []}
use Rattle.std.proofs.Common.{Option, Some, None, option_map}
use Prim.Native.Nat.{ℕ, ◌≤◌}
use native.Mathlib.Omega.{arith}
use lib.ListN.{length}
use borrow.Author.Tests.{le-leb}
use Rattle.octets.proofs.Laws.{some_is}
use Rattle.id.specs.declared.Id.{Id}
use Rattle.id.specs.Id.{least, at_most, following_of}
use Rattle.stream.specs.Ledger.{Ledger, is_ledger}
use Rattle.stream.specs.Cut.{Model, ledger_of}
use Rattle.stream.specs.Report.{between, Integers, Report, no_messages, report_on, joined}
use Rattle.stream.specs.Command.{Query, report, asks}
use Rattle.stream.specs.LedgerStep.{report_by, report_reply, reply_to}
use Rattle.stream.specs.Step.{Step, step}
use Rattle.stream.specs.Promise.{Lent, held_by, slots_of, Shows, FollowsBy}
use Rattle.stream.proofs.Laws as laws
use Rattle.snapshot.specs.Command.{on_stream}
use Rattle.snapshot.specs.Promise.{Does}
use Rattle.wallathi.specs.Export.{Seen, tell_to}
use Rattle.wallathi.specs.Run.{Meets}
use Rattle.wallathi.specs.Demands.{ledger_by, report_in, report_call, counts_seen, report_seen, Reports, Joins}
use Rattle.wallathi.proofs.Runs.{held_rules}
use Rattle.wallathi.proofs.Absent.{query_seen}

-- what is seen of a report
reply_seen : (olds : List ℕ) (lacking other : ℕ) (o : Option Integers) → tell_to olds [] (report_by lacking other o) ≡ counts_seen olds lacking other o
reply_seen olds lacking other None = refl
reply_seen olds lacking other (Some x) = refl

report_seen_lem : (i j : Lent) (s : Seen) (name : List ℕ) (first last : Id) (olds : List ℕ) (l : Ledger) → Meets (report_call name first last olds) i s j
    → ledger_by i ≡ Some l → length name ≤ 1000 → s ≡ report_seen olds (report_in name first last l)
report_seen_lem i j s name first last olds l d e h =
    let r : Report = report_in name first last l in
    let z : reply_to (report name first last) l ≡ report_reply r = rw (le-leb (length name) 1000 h) in
    query_seen (report name first last) olds [] i j s l d.does e ∙ ap (tell_to olds []) z ∙ reply_seen olds r.lacking r.other r.integers

-- a query keeps every byte
pub query_keeps : (q : Query) (values output : List ℕ) (i j : Lent) (s : Seen) (m : Model) → held_by i ≡ Some m
    → Does (tell_to values output) (on_stream (asks q)) i s j → j ≡ i
query_keeps q values output i j s m h d =
    let x : Shows (tell_to values output) (step (slots_of i) (asks q) m) m i s j =
    subst (λ (o : Option Model). FollowsBy (tell_to values output) (asks q) o i s j) h d in
    x.kept (ap (λ (t : Step). ledger_of t.after) (laws.step_asks (slots_of i) q m))

-- the model that a store holds whose ledger is l
module _ (i : Lent) (l : Ledger) {P : Type 0} where
  pub held : ledger_by i ≡ Some l → ((m : Model) → held_by i ≡ Some m → ledger_of m ≡ l → P) → P
  held e k = by (held_by i) refl e
    where
      by : (o : Option Model) → held_by i ≡ o → option_map ledger_of o ≡ Some l → P
      by None h e = absurd (let z : ◌≡◌ {A = ℕ} 0 1 = cc in omega arith)
      by (Some m) h e = k m h (some_is e)

pub report_exact : (i j : Lent) (s : Seen) (name : List ℕ) (first last : Id) (olds : List ℕ) (l : Ledger) → Meets (report_call name first last olds) i s j
    → ledger_by i ≡ Some l → length name ≤ 1000 → Reports name first last olds l i s j
report_exact i j s name first last olds l d e h =
    held i l e λ m q p.
    let n : length l.messages ≤ 6400 =
    subst (λ (x : Ledger). length x.messages ≤ 6400) p (laws.most_messages (slots_of i) m (held_rules i m q) (omega arith)) in
    record {
      sees = report_seen_lem i j s name first last olds l d e h;
      kept = query_keeps (report name first last) olds [] i j s m q d.does;
      counts = omega (arith, laws.counted_once name no_messages (between first last l.messages));
      exact = laws.report_exact name (between first last l.messages) (omega (arith, laws.few_between first last l.messages));
      empty = laws.empty_range first last l.messages;
    }

pub report_parts : (i j k n : Lent) (s t u : Seen) (name : List ℕ) (a b c d : Id) (xs ys zs : List ℕ) (l : Ledger)
    → Meets (report_call name a b xs) i s j → Meets (report_call name d c ys) i t k → Meets (report_call name a c zs) i u n → ledger_by i ≡ Some l
    → length name ≤ 1000 → following_of b ≡ Some d → at_most a b ≡ true → at_most b c ≡ true → Joins name a b c d l xs ys zs s t u
report_parts i j k n s t u name a b c d xs ys zs l p q r e h f ab bc =
    held i l e λ m x y.
    let w = laws.ledger_rules l (subst (λ (o : Ledger). is_ledger o ≡ true) y (laws.model_ledger (slots_of i) m (held_rules i m x))) in
    let g : report_in name a c l ≡ joined (report_in name a b l) (report_in name d c l) =
    ap (report_on name no_messages) (laws.between_cut a b c d f ab bc least l.last l.messages w.messages_are)
    ∙ laws.report_parts name (between a b l.messages) (between d c l.messages) in
    record {
      first_sees = report_seen_lem i j s name a b xs l p e h;
      second_sees = report_seen_lem i k t name d c ys l q e h;
      whole_sees = report_seen_lem i n u name a c zs l r e h ∙ ap (report_seen zs) g;
    }
