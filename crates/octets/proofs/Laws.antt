-- What callers cite. Assumes nothing.
--   Picks     a choice by a test, under any claim
--   Stages    of a `do` block that answered
--   Byte      what is made of bytes is bytes
--   Digits    le, be, le_value, be_value: lengths, ranges, each gives the other back
--   Put       put: length, ends, joined, overlaid, exchanged
--   Areas     area: length, parts, of appends, of puts
--   Splices   spliced: its parts
--   Tested    all_zero, same
--   Ordered   order_of
pub use Rattle.octets.proofs.Picks.{pick_by, pick_lt, pick_le, pick_eq, by_lower}
pub use Rattle.octets.proofs.Stages.{needed, answered, some_is, none_mapped, none_is, needed_some}
pub use Rattle.octets.proofs.Byte.{bytes_nil, bytes_cons, bytes_head, bytes_tail, bytes_take, bytes_drop, bytes_append, bytes_set, bytes_zeros, bytes_area, bytes_put, bytes_le, bytes_be, are_bytes_lem, bytes_are}
pub use Rattle.octets.proofs.Digits.{length_le, length_be, value_le, le_value_lem, value_le_lt, value_be, be_value_lem, value_be_lt, value_le_zeros, value_be_zeros}
pub use Rattle.octets.proofs.Put.{put_none, put_first, put_two, put_last, put_all, length_put, part_put, take_put, take_put_end, drop_put_end, drop_put, take_put_in, put_append, put_swap, set_put, drop_zeros, put_at, put_middle}
pub use Rattle.octets.proofs.Areas.{part_area, part_is, part_rest, area_drop, cut, area_cut, area_front, area_all, area_none, area_rest, length_area, get_d_area, area_add, area_first, area_last, area_area, area_append_left, area_append_right, area_left, area_right, area_middle, area_zeros, area_before, area_after, area_put_part, area_put, area_put_at, area_split, put_area_lem, drop_put_in, area_put_in, put_in, area_set_after, area_set_before}
pub use Rattle.octets.proofs.Splices.{spliced_put, length_spliced, spliced_before, spliced_new, spliced_rest, spliced_gap, spliced_after, spliced_used}
pub use Rattle.octets.proofs.Tested.{pick_same, never, both_true, both_of, both_false, both_end, both_assoc, zero_all, all_zero_lem, same_refl, same_true, same_false, same_length}
pub use Rattle.octets.proofs.Ordered.{is_less_lem, is_equal_lem, mirror, first, first_less, first_greater, first_equal, by_order, order_refl, order_mirror, order_equal, order_trans, order_be, order_be_alone, before_self, before_trans, before_differs}
