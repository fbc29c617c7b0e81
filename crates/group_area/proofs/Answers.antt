-- What each function answers on a sound area, and the area that it leaves. Assumes nothing.
use mathlib.Core.Path.{◌≡◌, refl, sym, ap, ap₂, ◌∙◌, subst}
use mathlib.Core.Bool.{true, false}
use mathlib.Core.List.{List, [], ◌∷◌, ◌++◌}
use Rattle.std.proofs.Common.{Some, None}
use Prim.Native.Nat.{ℕ, suc, ◌+◌, ◌-◌, ◌*◌, ◌≤◌, ◌<◌}
use native.Mathlib.Omega.{arith}
use lib.ListN.{length, take, drop, get_or, take-append-drop}
use lib.Seq.{length-take-le}
use borrow.Author.Tests.{le-leb, lt-leb}
use Rattle.octets.specs.Bytes.{zeros}
use Rattle.octets.specs.Place.{area, put}
use Rattle.id.specs.declared.Id.{Id}
use Rattle.id.specs.Id.{greatest}
use Rattle.groups.specs.declared.Spot.TheVariants.{Known, New}
use Rattle.groups.specs.Group.{Group, is_among, is_group}
use Rattle.groups.specs.Bytes.{region_bytes}
use Rattle.groups.specs.Step.{put_group, without_group, new_group}
use Rattle.groups.specs.Answer.{spot_from}
use Rattle.groups.specs.Area.{most_groups, names_of, are_groups, area_bytes}
use Rattle.groups.proofs.Laws.{known_spot, new_spot, Sound, sound, length_names, StandsAt, stands_at, missing_at}
use Rattle.refusal.specs.declared.Refusal.TheVariants.{NoGroup, GroupExists, MostGroups}
use Rattle.group_area.specs.Answer.{groups_in, SoundArea, refusal_to_create, refusal_to_destroy}
use Rattle.group_area.proofs.Laid.{region_at, region_put, region_out, region_in}
use Rattle.group_area.proofs.Found.{used_region, free_region}

module _ (s : List ℕ) (h : SoundArea s) where
  abbrev gs : List Group
  gs = groups_in s

  pub rules_of : Sound greatest (groups_in s)
  rules_of = sound greatest gs h.rules_kept

  -- the last region tells whether there are 8 groups
  pub full : (get_or s 50540 0 ≡ 0 → ⊥) → 8 ≤ length (groups_in s)
  full n = omega (arith, (used_region s h 7 50540 (omega arith) n).within, length_names gs)

  pub room : get_or s 50540 0 ≡ 0 → length (groups_in s) < 8
  room e = omega (arith, free_region s h 7 50540 (omega arith) e, length_names gs)

  module _ (n : List ℕ) (k : ℕ) where
    -- the name is there
    module _ (e : spot_from 0 n (names_of (groups_in s)) ≡ Known k) where
      pub at : StandsAt k n (groups_in s)
      at = stands_at n gs k e

      front : length (take k gs) ≡ k
      front = length-take-le k gs (omega (arith, at.within))

      among : is_among n (names_of gs) ≡ true
      among = (known_spot 0 n (names_of gs) k e).among

      split : are_groups greatest (take k gs ++ (at.group ∷ drop (suc k) gs)) ≡ true
      split = subst (λ (l : List Group). are_groups greatest l ≡ true) at.split rules_of.groups

      laid : s ≡ area_bytes (take k gs ++ (at.group ∷ drop (suc k) gs))
      laid = h.laid ∙ ap area_bytes at.split

      pub known_few : k < 8
      known_few = omega (arith, at.within, rules_of.few)

      pub create_exists : refusal_to_create n (groups_in s) ≡ Some GroupExists
      unfolding refusal_to_create
      create_exists = rw among

      pub destroy_done : refusal_to_destroy n (groups_in s) ≡ None
      unfolding refusal_to_destroy
      destroy_done = rw among

      pub destroyed : put (put s (k * 7220) (area (k * 7220 + 7220) (50540 - k * 7220) s)) 50540 (zeros 7220) ≡ area_bytes (without_group n (groups_in s))
      destroyed =
          let c : List Group = take k gs ++ (at.group ∷ drop (suc k) gs) in
          let f : length c ≤ 8 = subst (λ (l : List Group). length l ≤ 8) at.split rules_of.few in
          ap₂ (λ (l : List ℕ) (i : ℕ). put (put l (i * 7220) (area (i * 7220 + 7220) (50540 - i * 7220) l)) 50540 (zeros 7220)) laid (sym front)
          ∙ region_out greatest (take k gs) (drop (suc k) gs) at.group split f
          ∙ ap area_bytes (sym at.without)

      -- the region of that group, and another in its place
      pub group_at_lem : area (k * 7220) 7220 s ≡ region_bytes at.group
      group_at_lem = ap₂ (λ (l : List ℕ) (i : ℕ). area (i * 7220) 7220 l) laid (sym front) ∙ region_at greatest (take k gs) (drop (suc k) gs) at.group split

      pub replaced : (g : Group) → is_group g ≡ true → g.name ≡ n → put s (k * 7220) (region_bytes g) ≡ area_bytes (put_group g (groups_in s))
      replaced g i m =
          ap₂ (λ (l : List ℕ) (j : ℕ). put l (j * 7220) (region_bytes g)) laid (sym front)
          ∙ region_put greatest (take k gs) (drop (suc k) gs) at.group split g i
          ∙ ap area_bytes (sym (at.put_there g m))

    -- the name is not there
    module _ (e : spot_from 0 n (names_of (groups_in s)) ≡ New k) where
      unknown : is_among n (names_of gs) ≡ false
      unknown = (new_spot [] 0 n (names_of gs) k rules_of.rising e).unknown

      pub destroy_absent : refusal_to_destroy n (groups_in s) ≡ Some NoGroup
      unfolding refusal_to_destroy
      destroy_absent = rw unknown

      pub create_full : 8 ≤ length (groups_in s) → refusal_to_create n (groups_in s) ≡ Some MostGroups
      unfolding refusal_to_create
      create_full l = rw (unknown, le-leb most_groups (length gs) l)

      pub create_done : length (groups_in s) < 8 → refusal_to_create n (groups_in s) ≡ None
      unfolding refusal_to_create
      create_done l = rw (unknown, lt-leb most_groups (length gs) l)

      pub new_within : k ≤ length (groups_in s)
      new_within = (missing_at n gs k e).within

      pub created : (start : Id) → length (groups_in s) < 8 → length (region_bytes (new_group n start)) ≡ 7220
          → put (put s (k * 7220 + 7220) (area (k * 7220) (50540 - k * 7220) s)) (k * 7220) (region_bytes (new_group n start))
          ≡ area_bytes (put_group (new_group n start) (groups_in s))
      created start l m =
          let g : Group = new_group n start in
          let w = missing_at n gs k e in
          let c : take k gs ++ drop k gs ≡ gs = take-append-drop k gs in
          let f : length (take k gs) ≡ k = length-take-le k gs w.within in
          ap₂ (λ (x : List ℕ) (i : ℕ). put (put x (i * 7220 + 7220) (area (i * 7220) (50540 - i * 7220) x)) (i * 7220) (region_bytes g))
          (h.laid ∙ ap area_bytes (sym c)) (sym f)
          ∙ region_in greatest (take k gs) (drop k gs) g
          (subst (λ (x : List Group). are_groups greatest x ≡ true) (sym c) rules_of.groups)
          (subst (λ (x : List Group). length x < 8) (sym c) l) m
          ∙ ap area_bytes (sym (w.put_in g refl))
