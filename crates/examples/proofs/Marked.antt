-- The cases that 01 marks with *, proved together: the definitions write these bytes, and read them back. Assumes nothing.
use mathlib.Core.Path.{◌≡◌, refl}
use mathlib.Core.List.{List, [], ◌∷◌, map}
use Rattle.std.proofs.Common.{Some}
use Rattle.octets.specs.Bytes.{le, le_value, be, be_from, be_value}
use Rattle.octets.specs.Place.{area, take_bytes}
use Rattle.octets.specs.Compare.{same, all_zero}
use Rattle.id.specs.Id.{id_order}
use Rattle.id.specs.Bytes.{id_bytes, id_from}
use Rattle.id.specs.Difference.{difference_of, rebuilt_of}
use Rattle.decimal.specs.Integer.{pattern_of, signed_of, negative_of, unsigned_of, positive_of, digits_after}
use Rattle.decimal.specs.Text.{text_of, natural_text, digits_of}
use Rattle.listpack.specs.Width.{fits, narrow, extend}
use Rattle.listpack.specs.Element.{element, encode_item, item_of, integer_body, text_head, back_length}
use Rattle.listpack.specs.Listpack as Listpack
use Rattle.listpack.specs.Read.{parse, as_integer, integer_stands, read_element, read_by, read_wide, tag_width, close_integer, close_text, as_text, text_stands, back_at, parse_many, parse_listpack}
use Rattle.node.specs.Message.{live, are_strings, are_pairs, is_message, same_strings, live_in, live_count, deleted_count}
use Rattle.node.specs.Bytes.{master_strings, pair_strings, entry_strings, entries_strings, node_strings, node_bytes, node_size, slot_of}
use Rattle.node.specs.Rules.{rising_from, are_messages, is_node, are_counts, has_room}
use Rattle.node.specs.Parse.{read_number, read_exactly, read_strings, read_values, read_pairs, read_entry, read_entries, parse_strings, parse_node, parse_slot}
use Rattle.groups.specs.Group.{rising_names}
use Rattle.groups.specs.Area.{are_groups, is_groups}
use Rattle.stream.specs.Ledger.{empty_ledger, messages_above, is_ledger}
use Rattle.stream.specs.Cut.{add_all, fresh_cut}
use Rattle.snapshot.specs.Bytes.{parts_of, contents, bodies, file_of, snapshot_of}
use Rattle.snapshot.specs.Parse.{take_parts, parse_file, read_parts, parse_snapshot}
use Rattle.examples.specs.Case.{string, listpack, node, snapshot, bytes_of, read_in, Row, row, message}

pub table : List Row
table =
    row (string (48 ∷ [])) (0x00 ∷ 0x01 ∷ [])  -- "0"
    ∷ row (string []) (0x80 ∷ 0x01 ∷ [])  -- the empty string
    ∷ row (string (49 ∷ 50 ∷ 56 ∷ [])) (0xC0 ∷ 0x80 ∷ 0x02 ∷ [])  -- "128"
    ∷ row (string (45 ∷ 49 ∷ [])) (0xDF ∷ 0xFF ∷ 0x02 ∷ [])  -- "-1"
    ∷ row (string (45 ∷ 52 ∷ 48 ∷ 57 ∷ 54 ∷ [])) (0xD0 ∷ 0x00 ∷ 0x02 ∷ [])  -- "-4096"
    ∷ row (string (52 ∷ 48 ∷ 57 ∷ 54 ∷ [])) (0xF1 ∷ 0x00 ∷ 0x10 ∷ 0x03 ∷ [])  -- "4096"
    ∷ row (string (45 ∷ 52 ∷ 48 ∷ 57 ∷ 55 ∷ [])) (0xF1 ∷ 0xFF ∷ 0xEF ∷ 0x03 ∷ [])  -- "-4097"
    ∷ row (string (48 ∷ 48 ∷ 55 ∷ [])) (0x83 ∷ 0x30 ∷ 0x30 ∷ 0x37 ∷ 0x04 ∷ [])  -- "007"
    ∷ row (string (45 ∷ 48 ∷ [])) (0x82 ∷ 0x2D ∷ 0x30 ∷ 0x03 ∷ [])  -- "-0"
    ∷ row (listpack []) (0x07 ∷ 0x00 ∷ 0x00 ∷ 0x00 ∷ 0x00 ∷ 0x00 ∷ 0xFF ∷ [])  -- the empty listpack
    ∷ row (node (live (message 5 0 (97 ∷ []) (49 ∷ [])) ∷ [])) (0x1C ∷ 0x00 ∷ 0x00 ∷ 0x00 ∷ 0x0A ∷ 0x00 ∷ 0x01 ∷ 0x01 ∷ 0x00 ∷ 0x01 ∷ 0x01 ∷ 0x01 ∷ 0x81 ∷ 0x61 ∷ 0x02 ∷ 0x00 ∷ 0x01 ∷ 0x02 ∷ 0x01 ∷ 0x00 ∷ 0x01 ∷ 0x00 ∷ 0x01 ∷ 0x01 ∷ 0x01 ∷ 0x04 ∷ 0x01 ∷ 0xFF ∷ [])  -- the node with 5-0, a=1
    ∷ row (snapshot empty_ledger) (0x01 ∷ 0x01 ∷ 0x00 ∷ 0x01 ∷ 0x0C ∷ 0x00 ∷ 0x00 ∷ 0x00 ∷ 0x10 ∷ 0x00 ∷ 0x00 ∷ 0x00 ∷ 0x00 ∷ 0x00 ∷ 0x00 ∷ 0x00 ∷ 0x00 ∷ 0x00 ∷ 0x00 ∷ 0x00 ∷ 0x00 ∷ 0x00 ∷ 0x00 ∷ 0x00 ∷ 0x00 ∷ 0x00 ∷ 0x00 ∷ 0x00 ∷ [])  -- the empty store's snapshot
    ∷ []

pub marked : map (λ (r : Row). bytes_of r.what) table ≡ map (λ (r : Row). r.bytes) table
unfolding table snapshot_of file_of contents bodies parts_of fresh_cut add_all id_bytes be Listpack.listpack Listpack.header Listpack.elements element encode_item item_of integer_body text_head back_length fits narrow le pattern_of signed_of negative_of unsigned_of positive_of digits_after same text_of natural_text digits_of node_bytes node_strings entries_strings entry_strings pair_strings master_strings live_in live_count deleted_count same_strings difference_of
marked = refl

pub read_back : map (λ (r : Row). read_in r.what) table ≡ map (λ (r : Row). Some r.what) table
unfolding table parse_snapshot parse_file take_parts read_parts take_bytes is_ledger messages_above is_groups are_groups rising_names snapshot_of file_of contents bodies parts_of fresh_cut add_all id_bytes id_from be be_from be_value Listpack.listpack Listpack.header Listpack.elements element encode_item item_of integer_body text_head back_length fits narrow extend le le_value area all_zero pattern_of signed_of negative_of unsigned_of positive_of digits_after same text_of natural_text digits_of parse read_element read_by read_wide tag_width close_integer as_integer integer_stands close_text as_text text_stands back_at parse_many parse_listpack node_bytes node_strings entries_strings entry_strings pair_strings master_strings live_in live_count deleted_count same_strings difference_of rebuilt_of id_order node_size slot_of rising_from are_messages is_message are_pairs are_strings is_node are_counts has_room read_number read_exactly read_strings read_values read_pairs read_entry read_entries parse_strings parse_node parse_slot
read_back = refl
