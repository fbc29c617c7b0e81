-- What callers cite; the laws of the groups of an area by themselves are in the crate groups. Assumes nothing.
--   Laid      where each group's region lies, and a region changed in place (region_at, region_free, region_put)
--   Lent      when an area is sound; the region that find gives, and what putting a group there makes of the area (found_group)
--   Found     a sound area has 57,760 bytes
pub use Rattle.group_area.proofs.Laid.{region_at, region_free, region_put}
pub use Rattle.group_area.proofs.Lent.{groups_of_area, sound_area, ParsedArea, parsed_area, judged_area, sound_parse, FoundGroup, found_group, found_place, absent_group}
pub use Rattle.group_area.proofs.Found.{sound_size}
