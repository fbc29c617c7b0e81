-- What callers cite. Assumes nothing.
--   Regions    a region is read as a group exactly when it has the group's bytes and the group keeps the rules
--   Bodies     the same of a body in a snapshot
--   Verdicts   what a sound region is
--   Rules      the rules of a group, one by one
--   Kept       what happens to a group keeps its rules; in each group a pending ID has one consumer (one_consumer)
--   Groups     the rules of all groups, one by one
--   Areas      an area is read as groups exactly when it has their bytes and they keep the rules (area_parse, area_bytes_lem)
--   Listed     the groups by rising name: the place of one, one put in or taken out
--   Finding    the group that is found, put back, taken out; the rules with a later last ID (groups_later)
--   Steps      each step: its name, where it changes nothing, the rules of all groups (deliver_groups ..)
--   Batches    IDs delivered one after the other (deliver_all): the group's rules, its name, the rules of all groups
--   Names, Fields, Entries, Parts, Turns    names and entries in a region and in a body, written and read
--   Pendings, Consumers, Spots, Searched    sorted lists: one put in, taken out, found
pub use Rattle.groups.proofs.Regions.{length_region, region_name, region_delivered, region_count, region_number, region_entries, group_of_region, is_region_lem, Tested, tested, region_parse, RegionRead, region_bytes_lem}
pub use Rattle.groups.proofs.Bodies.{taken, taken_names, value_one, body_parse, BodyRead, body_bytes_lem}
pub use Rattle.groups.proofs.Verdicts.{region_unnamed, zero_no_field, used_not_zero, sound_tested, sound_parse, group_in_lem, sound_region_lem, ParsedSound, parse_sound}
pub use Rattle.groups.proofs.Rules.{Rules, rules, is_group_lem}
pub use Rattle.groups.proofs.Kept.{up_to_later, entries_with, entries_without, rules_with, with_entry, rules_entry, deliver_kept, claim_kept, acknowledge_rules, drop_rules, acknowledge_kept, drop_kept, deliver_up_to, claim_up_to, acknowledge_up_to, drop_up_to, OneConsumer, one_consumer}
pub use Rattle.groups.proofs.Names.{Named, named, is_name_lem, rising_above, above_rising, Placed, placed, place_get_d, among_get_d, after_differs, same_swap, empty_before}
pub use Rattle.groups.proofs.Fields.{length_field, length_fields, name_of_field, FieldRead, field_read, FieldsKept, fields_kept, FieldsRead, fields_read}
pub use Rattle.groups.proofs.Entries.{Entry, entry, is_pending_lem, length_entry, entry_place_lem, length_entries, number_read, number_lt, EntriesKept, entries_kept, EntriesRead, entries_read}
pub use Rattle.groups.proofs.Parts.{length_padded, padded_rest, padded_read, six_parts, part_delivered, part_count, part_number, part_entries, parts}
pub use Rattle.groups.proofs.Turns.{first_byte_lem, name_at, id_of_lem}
unfoldable pub use Rattle.groups.proofs.Pendings.{all_of}
pub use Rattle.groups.proofs.Pendings.{all_of_lem, all_more, all_weaker, all_member, up_to_all, entries_all, put_last, put_found, Stands, stands, without_absent, count_others, above_within, all_within, Within, without_within, others_within, length_within}
pub use Rattle.groups.proofs.Consumers.{by_name, greater_before, equal_same, among_first, among_later, among_rest, with_equal, with_less, with_greater, above_with, with_known, among_with, among_new, without_unknown, without_cut, above_without, among_without}
pub use Rattle.groups.proofs.Spots.{KnownSpot, known_spot, NewSpot, new_spot, place_known, place_new, FoundName, found_name, absent_name, none_of, place_among, same_place}
pub use Rattle.groups.proofs.Searched.{names_from, consumers_counted, entries_counted, pending_from, consumer_of, time_of, count_of_lem}
pub use Rattle.groups.proofs.Groups.{First, first, joined, Sound, sound, are_sound, not_free, length_regions, regions_append}
pub use Rattle.groups.proofs.Areas.{parse_free, parse_used, regions_parse, RegionsRead, regions_bytes, length_area_bytes, length_groups_area, area_parse, AreaRead, area_bytes_lem}
pub use Rattle.groups.proofs.Listed.{length_names, StandsAt, stands_at, Missing, missing_at, find_unknown, put_kept, new_kept, without_kept, new_is_group, new_up_to}
pub use Rattle.groups.proofs.Finding.{groups_greatest, groups_later, found_kept, FoundNamed, found_named, put_found_same, find_put, find_put_other, find_without_other}
pub use Rattle.groups.proofs.Steps.{deliver_name, acknowledge_name, claim_name, drop_name, acknowledge_missing, drop_unknown, count_unknown, found_is_group, found_up_to, deliver_groups, acknowledge_groups, claim_groups, drop_groups, create_groups, destroy_groups}
pub use Rattle.groups.proofs.Batches.{lacks_delivered, above_first, Turn, deliver_turn, deliver_all_name, deliver_all_join, deliver_all_up_to, deliver_all_kept, deliver_all_length, deliver_all_groups}
