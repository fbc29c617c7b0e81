-- What is printed, computed: a refusal, a report, one without an integer. Assumes nothing.
use mathlib.Core.Path.{◌≡◌, refl}
use mathlib.Core.List.{[], ◌∷◌}
use Rattle.std.proofs.Common.{Some, None}
use lib.IntN.{pos, negsuc}
use Rattle.octets.specs.Bytes.{zeros}
use Rattle.octets.specs.Place.{take_bytes}
use Rattle.decimal.specs.Text.{natural_text, digits_of}
use Rattle.stream.specs.Report.{report}
use Rattle.snapshot.specs.Parse.{parse_snapshot, parse_file}
use Rattle.report.specs.Printed.{found, finding_in, integer_text, texts_of, lines_of, printed}

-- "16", for an empty file
empty_file : printed [] (116 ∷ []) ≡ 49 ∷ (54 ∷ (10 ∷ []))
unfolding finding_in parse_snapshot parse_file take_bytes lines_of natural_text digits_of
empty_file = refl

-- "3" comes first
name_over : printed [] (zeros 1001) ≡ 51 ∷ (10 ∷ [])
unfolding finding_in lines_of natural_text digits_of
name_over = refl

-- "1", "2", "2", "-3", "-10", "7"
six_numbers : lines_of (texts_of (found (report 1 2 (Some (record { count = 2; sum = negsuc 2; smallest = negsuc 9; largest = pos 7 })))))
    ≡ 49 ∷ (10 ∷ (50 ∷ (10 ∷ (50 ∷ (10 ∷ (45 ∷ (51 ∷ (10 ∷ (45 ∷ (49 ∷ (48 ∷ (10 ∷ (55 ∷ (10 ∷ []))))))))))))))
unfolding lines_of natural_text digits_of integer_text
six_numbers = refl

-- "0", "5", "0", "0", "none", "none"
no_integer : lines_of (texts_of (found (report 0 5 None)))
    ≡ 48 ∷ (10 ∷ (53 ∷ (10 ∷ (48 ∷ (10 ∷ (48 ∷ (10 ∷ (110 ∷ (111 ∷ (110 ∷ (101 ∷ (10 ∷ (110 ∷ (111 ∷ (110 ∷ (101 ∷ (10 ∷ [])))))))))))))))))
unfolding lines_of natural_text digits_of
no_integer = refl
