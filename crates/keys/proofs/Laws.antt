-- What callers cite of sorted entries. Assumes nothing.

-- facts of every key
pub use Rattle.keys.proofs.Every.{Keys, Short, keys_append, keys_left, keys_map, keys_right}
-- two keys, and keys that rise
pub use Rattle.keys.proofs.Sides.{is_false, Sides, below, equal, above, sides, before_once, same_swap}
pub use Rattle.keys.proofs.Sorted.{both_left, both_right, before_less, before_equal, before_greater, before_le, before_nil, rising_tail, rising_left, rising_right, above_rising}
-- what is_map says
pub use Rattle.keys.proofs.Fits.{is_map_lem, map_length, map_rising, map_fit, key_short, fit_head, fit_tail, none_map}
-- put replaces or inserts, remove takes out, and neither changes another key's value
pub use Rattle.keys.proofs.Maps.{lookup_append, lookup_none, or_none_lem, lookup_insert, lookup_insert_other, lookup_without, lookup_without_other, rising_insert, rising_without, above_keys, above_absent}
-- the neighbours: held, on the wanted side, none between; nothing exactly when none is on that side
pub use Rattle.keys.proofs.Nearest.{FirstAt, first_at_lem, first_none, LastAt, last_at_lem, last_none, keys_held}
-- every operation on a map leaves a map
pub use Rattle.keys.proofs.Kept.{map_insert, map_without, Small, AllSmall, operate_map, operations_map, reads_after, full_not, put_below_64, quiet_after, change_code}
-- what is asked of a key and of what is none, and what the answers say
pub use Rattle.keys.proofs.Answers.{find_refused, find_reply, first_refused, first_reply, last_refused, last_reply, found_reply, entry_reply_lem, sound_some, first_told, last_told, KeyIs, first_fits, last_fits, entry_short}
-- what the commands ask: every key after a put or a remove, a key above all, the first key, members, what put and remove leave
pub use Rattle.keys.proofs.Members.{keys_insert, keys_without, insert_last, without_first, Member, here, there, found_member, member_found, put_after, remove_after}
-- keys that are the bytes of IDs stand in the order of the IDs
pub use Rattle.keys.proofs.Ids.{before_ids, first_ids, last_ids, ids_long, ids_bytes_lem}
-- a key's place among the rows of a table
pub use Rattle.keys.proofs.Positions.{rank_held, rank_most}
pub use Rattle.keys.proofs.Rows.{length_rows, rows_first, rows_none, rows_take, rows_drop, rows_get, rows_same}
pub use Rattle.keys.proofs.Placing.{is_held, no_room, room_held, room_new, room_full, held_rows, new_rows, held_map, new_map, gone_rows}
-- tables without a byte past their rows
pub use Rattle.keys.proofs.Tables.{table_more}
