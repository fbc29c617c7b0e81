-- Elements computed, at the bounds of the forms, and refusals; those that 01 marks are in the crate examples. Assumes nothing.
use mathlib.Core.Path.{◌≡◌, refl}
use mathlib.Core.List.{List, [], ◌∷◌, ◌++◌, map}
use Rattle.std.proofs.Common.{Option, Some, None}
use Prim.Native.Nat.{ℕ}
use lib.ListN.{length}
use Rattle.octets.specs.Bytes.{le, le_value}
use Rattle.octets.specs.Place.{area}
use Rattle.octets.specs.Compare.{same}
use Rattle.decimal.specs.Integer.{pattern_of, signed_of, negative_of, unsigned_of, positive_of, digits_after}
use Rattle.decimal.specs.Text.{text_of, natural_text, digits_of}
use Rattle.listpack.specs.Width.{fits, narrow, extend}
use Rattle.listpack.specs.Element.{element, encode_item, item_of, integer_body, text_head, back_length}
use Rattle.listpack.specs.Read.{parse, Parsed, read_element, read_by, read_wide, integer_stands, as_integer, close_integer, text_stands, as_text, close_text, tag_width, back_at}

pub record Row : Type 0 where
  pub string : List ℕ
  pub bytes : List ℕ

abbrev row : List ℕ → List ℕ → Row
row s b = record { string = s; bytes = b }

table : List Row
table =
    row (49 ∷ 50 ∷ 55 ∷ []) (0x7F ∷ 0x01 ∷ [])
    ∷ row (52 ∷ 48 ∷ 57 ∷ 53 ∷ []) (0xCF ∷ 0xFF ∷ 0x02 ∷ [])
    ∷ row (51 ∷ 50 ∷ 55 ∷ 54 ∷ 56 ∷ []) (0xF2 ∷ 0x00 ∷ 0x80 ∷ 0x00 ∷ 0x04 ∷ [])
    ∷ row (56 ∷ 51 ∷ 56 ∷ 56 ∷ 54 ∷ 48 ∷ 56 ∷ []) (0xF3 ∷ 0x00 ∷ 0x00 ∷ 0x80 ∷ 0x00 ∷ 0x05 ∷ [])
    ∷ []

written : map (λ (r : Row). element r.string) table ≡ map (λ (r : Row). r.bytes) table
unfolding table element encode_item item_of integer_body text_head back_length fits narrow le pattern_of signed_of negative_of unsigned_of positive_of digits_after same
written = refl

abbrev found : Row → Option Parsed
found r = Some (record { string = r.string; size = length r.bytes })

read : map (λ (r : Row). parse (r.bytes ++ (7 ∷ []))) table ≡ map found table
unfolding table parse read_element read_by read_wide integer_stands as_integer close_integer text_stands as_text close_text tag_width back_at extend integer_body text_head back_length fits narrow le le_value area pattern_of signed_of negative_of unsigned_of positive_of digits_after same text_of natural_text digits_of
read = refl

-- bytes that hold a value in another form than the one that is written, or none
table_refused : List (List ℕ)
table_refused =
    (0x83 ∷ 0x31 ∷ 0x32 ∷ 0x37 ∷ 0x04 ∷ [])
    ∷ (0xC0 ∷ 0x7F ∷ 0x02 ∷ [])
    ∷ (0xF1 ∷ 0xFF ∷ 0x0F ∷ 0x03 ∷ [])
    ∷ (0xF0 ∷ 0x01 ∷ 0x00 ∷ 0x00 ∷ 0x00 ∷ 0x61 ∷ 0x06 ∷ [])
    ∷ (0xE0 ∷ 0x01 ∷ 0x61 ∷ 0x03 ∷ [])
    ∷ (0x81 ∷ 0x61 ∷ 0x03 ∷ [])
    ∷ (0x7F ∷ [])
    ∷ (0xFF ∷ 0x01 ∷ [])
    ∷ []

refused : map parse table_refused ≡ map (λ (b : List ℕ). None) table_refused
unfolding table_refused parse read_element read_by read_wide integer_stands as_integer close_integer text_stands as_text close_text tag_width back_at extend integer_body text_head back_length fits narrow le le_value area pattern_of signed_of negative_of unsigned_of positive_of digits_after same
refused = refl
