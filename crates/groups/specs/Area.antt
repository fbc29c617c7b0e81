-- The groups area of the state: eight regions, groups by rising name, free regions, all zero, last. Assumes nothing.
use Rattle.std.specs.Prelude.{Bool, true, false, List, [], ◌∷◌, ◌++◌, map, ℕ, zero, suc, ◌-◌, ◌*◌, leb, eqb, length, take, drop, Option, Some}
use Rattle.octets.specs.Pick.{both}
use Rattle.octets.specs.Maybe.{◌>>=◌, ◌>>◌, need}
use Rattle.octets.specs.Bytes.{zeros}
use Rattle.octets.specs.Compare.{all_zero}
use Rattle.id.specs.declared.Id.{Id}
use Rattle.groups.specs.Group.{Group, is_group, rising_names, pending_up_to}
use Rattle.groups.specs.Bytes.{region_bytes, region_size}
use Rattle.groups.specs.Parse.{parse_region}

-- up to 8 groups
abbrev pub most_groups : ℕ
most_groups = 8

abbrev pub area_size : ℕ
area_size = most_groups * region_size

abbrev pub names_of : List Group → List (List ℕ)
names_of gs = map (λ (g : Group). g.name) gs

unfoldable pub are_groups : Id → List Group → Bool
are_groups last [] = true
are_groups last (g ∷ gs) = both (both (is_group g) (pending_up_to last g.pending)) (are_groups last gs)

-- the rules of the ledger's groups; no pending ID is above the last ID
unfoldable pub is_groups : Id → List Group → Bool
is_groups last gs = both (leb (length gs) most_groups) (both (rising_names (names_of gs)) (are_groups last gs))

unfoldable pub regions : List Group → List ℕ
regions [] = []
regions (g ∷ gs) = region_bytes g ++ regions gs

unfoldable pub area_bytes : List Group → List ℕ
area_bytes gs = regions gs ++ zeros (area_size - length gs * region_size)

-- the groups in so many regions; none follows a free one
unfoldable pub parse_regions : ℕ → List ℕ → Option (List Group)
parse_regions zero s = Some []
parse_regions (suc n) s =
    elim (all_zero s) [
      | true ↦ Some []
      | false ↦ do
        g ← parse_region (take region_size s)
        gs ← parse_regions n (drop region_size s)
        Some (g ∷ gs)
    ]

unfoldable pub parse_area : Id → List ℕ → Option (List Group)
parse_area last s = do
  need (eqb (length s) area_size)
  gs ← parse_regions most_groups s
  need (is_groups last gs)
  Some gs
