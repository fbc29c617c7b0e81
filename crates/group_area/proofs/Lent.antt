-- What a caller of the area knows: when it is sound, the region that it may lend on, and what becomes of the others. Assumes nothing.
use mathlib.Core.Path.{◌≡◌, refl, sym, ap, ◌∙◌, subst}
use mathlib.Core.Bool.{true, not}
use mathlib.Core.List.{List, []}
use Prim.Native.Nat.{ℕ, ◌-◌, ◌*◌, ◌<◌}
use native.Mathlib.Omega.{arith}
use lib.ListN.{length}
use Rattle.std.proofs.Common.{is_none, Option, Some, None}
use Rattle.octets.specs.Bytes.{Bytes}
use Rattle.octets.specs.Place.{area, put}
use Rattle.id.specs.declared.Id.{Id}
use Rattle.id.specs.Id.{greatest}
use Rattle.groups.specs.declared.Spot.{Spot}
use Rattle.groups.specs.declared.Spot.TheVariants.{Known, New}
use Rattle.groups.specs.Group.{Group, is_among, is_group}
use Rattle.groups.specs.Bytes.{region_bytes}
use Rattle.groups.specs.Parse.{group_in}
use Rattle.groups.specs.Step.{find_group, put_group}
use Rattle.groups.specs.Answer.{SoundRegion, spot_from, place_in}
use Rattle.groups.specs.Area.{names_of, is_groups, area_bytes, parse_area}
use Rattle.groups.proofs.Laws.{group_in_lem, sound_region_lem, absent_name, known_spot, place_known, place_new, sound, regions_parse, area_parse, area_bytes_lem, find_unknown, groups_greatest, found_kept}
use Rattle.group_area.specs.Answer.{or_none, groups_in, SoundArea}
use Rattle.group_area.proofs.Answers.{rules_of, at, known_few, group_at_lem, replaced}

-- the area of groups is sound and holds them, and so is what is read with any last ID
pub groups_of_area : (last : Id) (gs : List Group) → is_groups last gs ≡ true → groups_in (area_bytes gs) ≡ gs
unfolding groups_in area_bytes
groups_of_area last gs e =
    let r = sound last gs e in ap or_none (regions_parse last 8 gs (57760 - length gs * 7220) r.groups r.few)

pub sound_area : (last : Id) (gs : List Group) → is_groups last gs ≡ true → SoundArea (area_bytes gs)
sound_area last gs e =
    let q : groups_in (area_bytes gs) ≡ gs = groups_of_area last gs e in
    record { laid = ap area_bytes (sym q); rules_kept = ap (is_groups greatest) q ∙ groups_greatest last gs e }

pub record ParsedArea (last : Id) (s : List ℕ) (gs : List Group) : Type 0 where
  pub groups : groups_in s ≡ gs
  pub sound : SoundArea s
  pub rules_kept : is_groups last gs ≡ true

pub parsed_area : (last : Id) (s : List ℕ) (gs : List Group) → Bytes s → parse_area last s ≡ Some gs → ParsedArea last s gs
parsed_area last s gs b e =
    let r = area_bytes_lem last s gs b e in
    record {
      groups = ap groups_in r.bytes ∙ groups_of_area last gs r.rules_kept;
      sound = subst SoundArea (sym r.bytes) (sound_area last gs r.rules_kept);
      rules_kept = r.rules_kept;
    }

-- what is judged sound is
judged_case : (last : Id) (s : List ℕ) (o : Option (List Group)) → Bytes s → parse_area last s ≡ o → not (is_none o) ≡ true → SoundArea s
judged_case last s None b e h = absurd (let z : ◌≡◌ {A = ℕ} 0 1 = cc in omega arith)
judged_case last s (Some gs) b e h = (parsed_area last s gs b e).sound

pub judged_area : (last : Id) (s : List ℕ) → Bytes s → not (is_none (parse_area last s)) ≡ true → SoundArea s
judged_area last s b h = judged_case last s (parse_area last s) b refl h

pub sound_parse : (last : Id) (s : List ℕ) → SoundArea s → is_groups last (groups_in s) ≡ true → parse_area last s ≡ Some (groups_in s)
sound_parse last s h e = subst (λ (l : List ℕ). parse_area last l ≡ Some (groups_in s)) (sym h.laid) (area_parse last (groups_in s) e)

-- the region that was found: the group of that name, sound by itself; another group of the name in its place is put_group
pub record FoundGroup (s : List ℕ) (n : List ℕ) (k : ℕ) : Type 0 where
  pub within : k < 8
  pub among : is_among n (names_of (groups_in s)) ≡ true
  pub region : SoundRegion (area (k * 7220) 7220 s)
  pub named_so : (group_in (area (k * 7220) 7220 s)).name ≡ n
  pub found : find_group n (groups_in s) ≡ Some (group_in (area (k * 7220) 7220 s))
  pub put_there : (g : Group) → is_group g ≡ true → g.name ≡ n → put s (k * 7220) (region_bytes g) ≡ area_bytes (put_group g (groups_in s))

module _ (s : List ℕ) (h : SoundArea s) (n : List ℕ) where
  known_found : (k : ℕ) → spot_from 0 n (names_of (groups_in s)) ≡ Known k → FoundGroup s n k
  known_found k e =
      let x = at s h n k e in
      let i : is_group x.group ≡ true = (found_kept greatest n (groups_in s) x.group (rules_of s h).groups x.found).is_group_lem in
      let q : area (k * 7220) 7220 s ≡ region_bytes x.group = group_at_lem s h n k e in
      let w : group_in (area (k * 7220) 7220 s) ≡ x.group = ap group_in q ∙ group_in_lem x.group i in
      record {
        within = known_few s h n k e;
        among = (known_spot 0 n (names_of (groups_in s)) k e).among;
        region = subst SoundRegion (sym q) (sound_region_lem x.group i);
        named_so = ap (λ (g : Group). g.name) w ∙ x.named_so;
        found = x.found ∙ ap Some (sym w);
        put_there = λ g j m. replaced s h n k e g j m;
      }

  found_case : (k : ℕ) (o : Spot) → spot_from 0 n (names_of (groups_in s)) ≡ o → place_in n (names_of (groups_in s)) ≡ Some k → FoundGroup s n k
  found_case k (Known j) e f =
      let g : Some j ≡ Some k = sym (place_known n (names_of (groups_in s)) j e) ∙ f in
      let q : j ≡ k = cc in
      subst (FoundGroup s n) q (known_found j e)
  found_case k (New j) e f =
      absurd
      (let g : None ≡ Some k = sym (place_new [] n (names_of (groups_in s)) j (rules_of s h).rising e) ∙ f in
      let z : ◌≡◌ {A = ℕ} 0 1 = cc in
      omega arith)

  pub found_group : (k : ℕ) → place_in n (names_of (groups_in s)) ≡ Some k → FoundGroup s n k
  found_group k e = found_case k (spot_from 0 n (names_of (groups_in s))) refl e

  pub absent_group : place_in n (names_of (groups_in s)) ≡ None → find_group n (groups_in s) ≡ None
  absent_group e = find_unknown n (groups_in s) (absent_name n (names_of (groups_in s)) e)

-- the same of the area of groups: the region at the place of a name, replaced, is that of the groups with the group put in
pub found_place : (last : Id) (gs : List Group) (n : List ℕ) (k : ℕ) → is_groups last gs ≡ true → place_in n (names_of gs) ≡ Some k → FoundGroup (area_bytes gs) n k
found_place last gs n k e f =
    found_group (area_bytes gs) (sound_area last gs e) n k (ap (λ (l : List Group). place_in n (names_of l)) (groups_of_area last gs e) ∙ f)
