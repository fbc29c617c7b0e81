-- What the program prints of a saved file and a field's name (02, CR 2): the six numbers of the report over every message of the file, one a
-- line, or the refusal's number alone. Assumes nothing.
use Rattle.std.specs.Prelude.{◌≡◌, List, [], ◌∷◌, ◌++◌, ℕ, ◌+◌, ◌≤◌, leb, ℤ, pos, negsuc, length, take, Option, Some, None}
use Rattle.refusal.specs.declared.Refusal.{Refusal}
use Rattle.refusal.specs.Number.{number_of}
use Rattle.refusal.specs.declared.Refusal.TheVariants.{BadArgument, NoSnapshot}
use Rattle.octets.specs.Pick.{pick}
use Rattle.decimal.specs.Text.{natural_text}
use Rattle.node.specs.Message.{longest_string}
use Rattle.stream.specs.Ledger.{Ledger}
use Rattle.stream.specs.Report.{Integers, Report, no_messages, report_on}
use Rattle.snapshot.specs.Parse.{parse_snapshot}

-- a report, or a refusal
pub data Finding : Type 0 where
  refusal : Refusal → Finding
  found : Report → Finding

-- 16, not a snapshot
abbrev pub finding_by : List ℕ → Option Ledger → Finding
finding_by name None = refusal NoSnapshot
finding_by name (Some l) = found (report_on name no_messages l.messages)

-- 3, the name is over 1,000 bytes
unfoldable pub finding_in : List ℕ → List ℕ → Finding
finding_in file name = pick (leb (length name) longest_string) (finding_by name (parse_snapshot file)) (refusal BadArgument)

-- a whole number in decimal; 45 is '-'
unfoldable pub integer_text : ℤ → List ℕ
integer_text (pos n) = natural_text n
integer_text (negsuc n) = 45 ∷ natural_text (n + 1)

-- the word none
abbrev pub none_text : List ℕ
none_text = 110 ∷ (111 ∷ (110 ∷ (101 ∷ [])))

-- how many integers, their sum, the smallest and the largest
abbrev pub integers_texts : Option Integers → List (List ℕ)
integers_texts None = natural_text 0 ∷ (natural_text 0 ∷ (none_text ∷ (none_text ∷ [])))
integers_texts (Some x) =
    natural_text x.count ∷ (integer_text x.sum ∷ (integer_text x.smallest ∷ (integer_text x.largest ∷ [])))

abbrev pub texts_of : Finding → List (List ℕ)
texts_of (refusal r) = natural_text (number_of r) ∷ []
texts_of (found r) = natural_text r.lacking ∷ (natural_text r.other ∷ integers_texts r.integers)

-- each text on a line, which 10 ends
unfoldable pub lines_of : List (List ℕ) → List ℕ
lines_of [] = []
lines_of (t ∷ ts) = t ++ (10 ∷ lines_of ts)

abbrev pub printed : List ℕ → List ℕ → List ℕ
printed file name = lines_of (texts_of (finding_in file name))

-- up to `end` the bytes are what is printed of a file and a name
pub record Prints (file name bytes : List ℕ) (end : ℕ) : Type 0 where
  pub text : take end bytes ≡ printed file name
  pub within : end ≤ length bytes
