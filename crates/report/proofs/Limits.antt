-- One byte more than a name or a snapshot may have is enough to be refused for: what comes after it changes nothing. Assumes nothing.
use mathlib.Core.Path.{◌≡◌, refl, sym, ap, ◌∙◌}
use mathlib.Core.Bool.{Bool, true, false}
use mathlib.Core.List.{List}
use Rattle.std.proofs.Common.{Option, Some, None}
use Prim.Native.Nat.{ℕ, ◌<◌}
use native.Mathlib.Omega.{arith}
use lib.Dec.{leb}
use lib.ListN.{length, take}
use lib.Seq.{length-take-le, take_all}
use borrow.Author.Tests.{lt-leb, leb-true, leb-false}
use Rattle.refusal.specs.declared.Refusal.TheVariants.{BadArgument}
use Rattle.stream.specs.Ledger.{Ledger}
use Rattle.snapshot.specs.Parse.{parse_snapshot}
use Rattle.snapshot.proofs.Laws.{parse_snapshot_lem, snapshot_most}
use Rattle.report.specs.Printed.{Finding, refusal, finding_in, texts_of, lines_of, printed}

over_refused : (file name : List ℕ) → 1000 < length name → finding_in file name ≡ refusal BadArgument
unfolding finding_in
over_refused file name h = rw (lt-leb (length name) 1000 h)

name_cut : (file name : List ℕ) → finding_in file (take 1001 name) ≡ finding_in file name
name_cut file name = by (leb (length name) 1001) refl
  where
    by : (t : Bool) → leb (length name) 1001 ≡ t → finding_in file (take 1001 name) ≡ finding_in file name
    by true e = ap (finding_in file) (take_all 1001 name (leb-true (length name) 1001 e))
    by false e =
        let h = leb-false (length name) 1001 e in
        over_refused file (take 1001 name) (omega (arith, length-take-le 1001 name (omega arith))) ∙ sym (over_refused file name (omega arith))

-- the longest snapshot has 321,604 bytes at most
too_long : (file : List ℕ) → 321604 < length file → parse_snapshot file ≡ None
too_long file h = by (parse_snapshot file) refl
  where
    by : (o : Option Ledger) → parse_snapshot file ≡ o → o ≡ None
    by None e = refl
    by (Some l) e = let s = parse_snapshot_lem file l e in absurd (omega (arith, snapshot_most l s.is_ledger_lem s.few_nodes, ap length s.bytes))

same_finding : (f g name : List ℕ) → parse_snapshot f ≡ parse_snapshot g → finding_in f name ≡ finding_in g name
unfolding finding_in
same_finding f g name e = rw e

file_cut : (file name : List ℕ) → finding_in (take 321605 file) name ≡ finding_in file name
file_cut file name = by (leb (length file) 321605) refl
  where
    by : (t : Bool) → leb (length file) 321605 ≡ t → finding_in (take 321605 file) name ≡ finding_in file name
    by true e = ap (λ (f : List ℕ). finding_in f name) (take_all 321605 file (leb-true (length file) 321605 e))
    by false e =
        let h = leb-false (length file) 321605 e in
        same_finding (take 321605 file) file name
        (too_long (take 321605 file) (omega (arith, length-take-le 321605 file (omega arith))) ∙ sym (too_long file (omega arith)))

-- so what is printed of the bytes that the program takes is what is printed of all
pub printed_cut : (file name : List ℕ) → printed (take 321605 file) (take 1001 name) ≡ printed file name
printed_cut file name =
    ap (λ (x : Finding). lines_of (texts_of x)) (file_cut file (take 1001 name) ∙ name_cut file name)
