-- What the functions answer, in terms of the groups that an area holds; of a change, the refusal, if it is refused. Assumes nothing.
use Rattle.std.specs.Prelude.{◌≡◌, true, List, [], ℕ, leb, length, Option, Some, None}
use Rattle.refusal.specs.declared.Refusal.{Refusal}
use Rattle.refusal.specs.declared.Refusal.TheVariants.{NoGroup, GroupExists, MostGroups}
use Rattle.octets.specs.Pick.{pick}
use Rattle.id.specs.declared.Id.{Id}
use Rattle.id.specs.Id.{greatest}
use Rattle.groups.specs.Group.{Group, is_among}
use Rattle.groups.specs.Step.{put_group, without_group, new_group}
use Rattle.groups.specs.Area.{most_groups, names_of, is_groups, area_bytes, parse_regions}

-- the groups that an area holds
abbrev pub or_none : Option (List Group) → List Group
or_none None = []
or_none (Some gs) = gs

unfoldable pub groups_in : List ℕ → List Group
groups_in s = or_none (parse_regions most_groups s)

-- a sound area has the bytes of the groups that are read of it, and they keep the rules; no pending ID is above the greatest ID, so the
-- rule on the last ID says nothing here. An area that is read with any last ID is sound (proofs/Laws: parsed_area)
pub record SoundArea (s : List ℕ) : Type 0 where
  pub laid : s ≡ area_bytes (groups_in s)
  pub rules_kept : is_groups greatest (groups_in s) ≡ true

-- create: 10, the group exists; 11, there are 8 groups
unfoldable pub refusal_to_create : List ℕ → List Group → Option Refusal
refusal_to_create n gs = pick (is_among n (names_of gs)) (Some GroupExists) (pick (leb most_groups (length gs)) (Some MostGroups) None)

-- the area after it; a refusal keeps every byte
abbrev pub created_bytes : Option Refusal → List ℕ → Id → List ℕ → List ℕ
created_bytes None n start s = area_bytes (put_group (new_group n start) (groups_in s))
created_bytes (Some r) n start s = s

-- destroy: 9, no such group
unfoldable pub refusal_to_destroy : List ℕ → List Group → Option Refusal
refusal_to_destroy n gs = pick (is_among n (names_of gs)) None (Some NoGroup)

abbrev pub destroyed_bytes : Option Refusal → List ℕ → List ℕ → List ℕ
destroyed_bytes None n s = area_bytes (without_group n (groups_in s))
destroyed_bytes (Some r) n s = s
