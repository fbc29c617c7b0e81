-- Replies, their bytes, and what the strict reader makes of them, computed. Assumes nothing.
use mathlib.Core.Path.{◌≡◌, refl}
use mathlib.Core.List.{List, [], ◌∷◌, map}
use Rattle.std.proofs.Common.{Some, None}
use Prim.Native.Nat.{ℕ}
use Rattle.octets.specs.Bytes.{le}
use Rattle.octets.specs.Compare.{same}
use Rattle.id.specs.Id.{id_of, id_order}
use Rattle.id.specs.Difference.{difference_of}
use Rattle.decimal.specs.Integer.{pattern_of, signed_of, negative_of, unsigned_of, positive_of, digits_after}
use Rattle.decimal.specs.Text.{text_of, natural_text, digits_of}
use Rattle.listpack.specs.Width.{fits, narrow}
use Rattle.listpack.specs.Element.{element, encode_item, item_of, integer_body, text_head, back_length}
use Rattle.listpack.specs.Listpack as Listpack
use Rattle.node.specs.Message.{pair, message, same_strings, live_in, live_count, deleted_count}
use Rattle.node.specs.Bytes.{master_strings, pair_strings, entry_strings, entries_strings, node_strings, node_bytes, node_size}
use Rattle.node.specs.Step.{fits_alone}
use Rattle.resp.specs.Reply.{head, bulk, id_text, bulks, opening, entry, entries, range_bytes, integer_bytes, error_bytes, Reply, range, integer, error, reply_bytes}
use Rattle.resp.specs.Parse.{cut_byte, cut_end, cut_digits, cut_number, cut_head, cut_bulk, id_in, pairs_by, cut_opening, cut_pairs, cut_entry, cut_entries, parse_range, parse_integer, parse_error, parse_reply}

-- of an entry: "*2", "$3", "5-0", and what follows; its pairs: "*2", "$1", "a", "$1", "1", and what follows
abbrev five : List ℕ → List ℕ
five r = 42 ∷ 50 ∷ 13 ∷ 10 ∷ 36 ∷ 51 ∷ 13 ∷ 10 ∷ 53 ∷ 45 ∷ 48 ∷ 13 ∷ 10 ∷ r

abbrev one : List ℕ → List ℕ
one r = 42 ∷ 50 ∷ 13 ∷ 10 ∷ 36 ∷ 49 ∷ 13 ∷ 10 ∷ 97 ∷ 13 ∷ 10 ∷ 36 ∷ 49 ∷ 13 ∷ 10 ∷ 49 ∷ 13 ∷ 10 ∷ r

pub record Row : Type 0 where
  pub reply : Reply
  pub bytes : List ℕ

abbrev row : Reply → List ℕ → Row
row x s = record { reply = x; bytes = s }

pub table : List Row
table =
    row (range []) (42 ∷ 48 ∷ 13 ∷ 10 ∷ [])  -- "*0"
    ∷ row (range (message (id_of 5 0) (pair (97 ∷ []) (49 ∷ []) ∷ []) ∷ [])) (42 ∷ 49 ∷ 13 ∷ 10 ∷ five (one []))  -- 5-0 with a=1
    ∷ row (integer 0) (58 ∷ 48 ∷ 13 ∷ 10 ∷ [])  -- ":0"
    ∷ row (integer 6400) (58 ∷ 54 ∷ 52 ∷ 48 ∷ 48 ∷ 13 ∷ 10 ∷ [])  -- ":6400"
    ∷ row (error 18) (45 ∷ 69 ∷ 82 ∷ 82 ∷ 32 ∷ 49 ∷ 56 ∷ 13 ∷ 10 ∷ [])  -- "-ERR 18"
    ∷ []

-- no replies
pub refused : List (List ℕ)
refused =
    (42 ∷ 48 ∷ 49 ∷ 13 ∷ 10 ∷ five (one []))  -- a leading zero in a count
    ∷ (42 ∷ 50 ∷ 13 ∷ 10 ∷ five (one (five (one []))))  -- IDs that do not rise: 5-0 twice
    ∷ (42 ∷ 49 ∷ 13 ∷ 10 ∷ 42 ∷ 50 ∷ 13 ∷ 10 ∷ 36 ∷ 51 ∷ 13 ∷ 10 ∷ 48 ∷ 45 ∷ 48 ∷ 13 ∷ 10 ∷ one [])  -- 0-0
    ∷ (42 ∷ 49 ∷ 13 ∷ 10 ∷ 42 ∷ 50 ∷ 13 ∷ 10 ∷ 36 ∷ 52 ∷ 13 ∷ 10 ∷ 48 ∷ 53 ∷ 45 ∷ 48 ∷ 13 ∷ 10 ∷ one [])  -- a leading zero in an ID
    ∷ (42 ∷ 49 ∷ 13 ∷ 10 ∷ five (42 ∷ 50 ∷ 13 ∷ 10 ∷ 36 ∷ 43 ∷ 49 ∷ 13 ∷ 10 ∷ 97 ∷ 13 ∷ 10 ∷ 36 ∷ 49 ∷ 13 ∷ 10 ∷ 49 ∷ 13 ∷ 10 ∷ []))  -- "+1" for a length
    ∷ (42 ∷ 49 ∷ 13 ∷ 10 ∷ five (42 ∷ 51 ∷ 13 ∷ 10 ∷ 36 ∷ 49 ∷ 13 ∷ 10 ∷ 97 ∷ 13 ∷ 10 ∷ 36 ∷ 49 ∷ 13 ∷ 10 ∷ 49 ∷ 13 ∷ 10 ∷ 36 ∷ 49 ∷ 13 ∷ 10 ∷ 98 ∷ 13 ∷ 10 ∷ []))  -- an odd number of strings
    ∷ (42 ∷ 48 ∷ 13 ∷ 10 ∷ 42 ∷ [])  -- a byte after the end
    ∷ (42 ∷ 48 ∷ 10 ∷ [])  -- LF without CR
    ∷ (42 ∷ [])  -- "*" alone
    ∷ (42 ∷ 49 ∷ 56 ∷ 52 ∷ 52 ∷ 54 ∷ 55 ∷ 52 ∷ 52 ∷ 48 ∷ 55 ∷ 51 ∷ 55 ∷ 48 ∷ 57 ∷ 53 ∷ 53 ∷ 49 ∷ 54 ∷ 49 ∷ 54 ∷ 13 ∷ 10 ∷ [])  -- a count of 2^64
    ∷ (58 ∷ 54 ∷ 52 ∷ 48 ∷ 49 ∷ 13 ∷ 10 ∷ [])  -- ":6401"
    ∷ (45 ∷ 69 ∷ 82 ∷ 82 ∷ 32 ∷ 48 ∷ 13 ∷ 10 ∷ [])  -- "-ERR 0"
    ∷ (45 ∷ 69 ∷ 82 ∷ 82 ∷ 32 ∷ 49 ∷ 57 ∷ 13 ∷ 10 ∷ [])  -- "-ERR 19"
    ∷ ([])  -- the empty string
    ∷ []

pub record Computed : Type 0 where
  pub written : map (λ (r : Row). reply_bytes r.reply) table ≡ map (λ (r : Row). r.bytes) table
  pub read : map (λ (r : Row). parse_reply r.bytes) table ≡ map (λ (r : Row). Some r.reply) table
  pub refuses : map parse_reply refused ≡ map (λ (s : List ℕ). None) refused

pub computed : Computed
unfolding table refused range_bytes integer_bytes error_bytes entries entry opening bulks bulk id_text head parse_reply parse_range parse_integer parse_error cut_entries cut_entry cut_pairs cut_opening pairs_by id_in cut_bulk cut_head cut_number cut_digits cut_end cut_byte id_order fits_alone node_size node_bytes node_strings entries_strings entry_strings pair_strings master_strings live_in live_count deleted_count same_strings difference_of Listpack.listpack Listpack.header Listpack.elements element encode_item item_of integer_body text_head back_length fits narrow le pattern_of signed_of negative_of unsigned_of positive_of digits_after same text_of natural_text digits_of
computed = record { written = refl; read = refl; refuses = refl }
