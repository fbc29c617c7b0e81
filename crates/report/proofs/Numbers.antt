-- The texts of a finding are those of the engine's reply: every number fits. Assumes nothing.
use mathlib.Core.Path.{◌≡◌, refl, ap, ap₂, ◌∙◌}
use mathlib.Core.List.{List, ◌∷◌}
use Rattle.std.proofs.Common.{Option, Some, None}
use Prim.Native.Nat.{ℕ, ◌+◌, ◌-◌, ◌^◌, ◌≤◌, ◌<◌}
use native.Mathlib.Omega.{arith}
use lib.Dec.{leb}
use lib.IntN.{ℤ, pos, negsuc, nat_abs}
use lib.ListN.{length, take}
use Rattle.refusal.specs.declared.Refusal.TheVariants.{BadArgument}
use Rattle.octets.proofs.Laws.{pick_by, length_put, take_put_end}
use Rattle.decimal.specs.Text.{natural_text, text_of}
use Rattle.decimal.proofs.Laws.{text_plus, text_minus}
use Rattle.stream.specs.declared.Reply.{Reply}
use Rattle.stream.specs.Ledger.{Ledger}
use Rattle.stream.specs.Report.{pattern_by, Integers, Report, no_messages, report_on, how_many}
use Rattle.stream.specs.LedgerStep.{report_by}
use Rattle.stream.specs.Reply.{reply_of}
use Rattle.stream.proofs.Laws.{counted_once, Bounds, report_bounded, most_messages, fresh_model, fresh_messages}
use Rattle.snapshot.specs.Parse.{parse_snapshot}
use Rattle.snapshot.specs.Command.{loaded}
use Rattle.snapshot.proofs.Laws.{parse_snapshot_lem}
use Rattle.report.specs.Printed.{Finding, refusal, found, finding_by, finding_in, integer_text, integers_texts, texts_of, lines_of, Prints}
use Rattle.report.specs.Written.{answer_of, reply_texts, Writes}

-- the text of a number and of its pattern
integer_text_lem : (z : ℤ) → nat_abs z < 2 ^ 63 → text_of (pattern_by z) ≡ integer_text z
unfolding pattern_by integer_text
integer_text_lem (pos n) h = text_plus n h
integer_text_lem (negsuc n) h = text_minus (2 ^ 64 - 1 - n) (n + 1) (omega arith) (omega arith)

-- a report's, where every number fits
report_texts : (l o : ℕ) (x : Option Integers) → l + (o + how_many x) ≤ 6400 → Bounds x
    → reply_texts (reply_of (report_by l o x)) ≡ natural_text l ∷ (natural_text o ∷ integers_texts x)
report_texts l o None h b = rw (text_plus l (omega arith), text_plus o (omega arith), text_plus 0 (omega arith))
report_texts l o (Some x) h b =
    rw (
      text_plus l (omega arith),
      text_plus o (omega arith),
      text_plus x.count (omega arith),
      integer_text_lem x.sum (omega (arith, b.sum_bound)),
      integer_text_lem x.smallest (omega (arith, b.smallest_bound)),
      integer_text_lem x.largest (omega (arith, b.largest_bound)),
    )

-- a file has at most 6,400 messages
few_messages : (file : List ℕ) (l : Ledger) → parse_snapshot file ≡ Some l → length l.messages ≤ 6400
few_messages file l e =
    let s = parse_snapshot_lem file l e in
    omega (arith, most_messages 64 (loaded l) (fresh_model 64 l s.is_ledger_lem s.few_nodes) (omega arith), ap length (fresh_messages l.messages))

finding_by_lem : (file name : List ℕ) (o : Option Ledger) → parse_snapshot file ≡ o → reply_texts (reply_of (answer_of (finding_by name o))) ≡ texts_of (finding_by name o)
finding_by_lem file name None e = rw (text_plus 16 (omega arith))
finding_by_lem file name (Some l) e =
    let r : Report = report_on name no_messages l.messages in
    report_texts r.lacking r.other r.integers (omega (arith, counted_once name no_messages l.messages, few_messages file l e))
    (report_bounded name no_messages l.messages tt)

pub finding_texts : (file name : List ℕ) → reply_texts (reply_of (answer_of (finding_in file name))) ≡ texts_of (finding_in file name)
unfolding finding_in
finding_texts file name =
    pick_by (λ (x : Finding). reply_texts (reply_of (answer_of x)) ≡ texts_of x) (leb (length name) 1000) (finding_by name (parse_snapshot file)) (refusal BadArgument)
    (λ h. finding_by_lem file name (parse_snapshot file) refl)
    (λ h. rw (text_plus 3 (omega arith)))

-- at most six lines
texts_most : (x : Finding) → length (texts_of x) ≤ 6
texts_most (refusal n) = omega arith
texts_most (found r) = by r.integers
  where
    by : (o : Option Integers) → length (natural_text r.lacking ∷ (natural_text r.other ∷ integers_texts o)) ≤ 6
    by None = omega arith
    by (Some x) = omega arith

-- the reply's texts, once they are written, are what is printed
pub prints : {file name out after : List ℕ} {end : ℕ} {r : Reply} → 126 ≤ length out → r ≡ reply_of (answer_of (finding_in file name))
    → Writes out 0 (reply_texts r) after end → Prints file name after end
prints {file} {name} {out} {after} {end} {r} h q w =
    let e : reply_texts r ≡ texts_of (finding_in file name) = ap reply_texts q ∙ finding_texts file name in
    let bs : List ℕ = lines_of (reply_texts r) in
    let m : end ≤ 126 = omega (arith, w.few, ap {B = ℕ} length e, texts_most (finding_in file name)) in
    let k : length bs ≤ length out = omega (arith, w.next_is) in
    record {
      text =
          ap₂ (λ (n : ℕ) (l : List ℕ). take n l) w.next_is w.bytes ∙ take_put_end out 0 bs (omega arith) ∙ ap lines_of e;
      within = omega (arith, ap length w.bytes, length_put out 0 bs (omega arith));
    }
