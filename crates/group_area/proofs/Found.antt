-- What stands at a region of a sound area, and the search for a name. Assumes nothing.
use mathlib.Core.Path.{◌≡◌, refl, sym, ap, ap₂, ◌∙◌, subst}
use mathlib.Core.Bool.{Bool, true, false}
use mathlib.Core.List.{List, [], ◌∷◌, ◌++◌, append_assoc}
use Prim.Native.Nat.{ℕ, zero, suc, ◌+◌, ◌-◌, ◌*◌, ◌≤◌, ◌<◌}
use native.Mathlib.Numerals.{add-one}
use native.Mathlib.Omega.{arith}
use lib.Dec.{ltb}
use lib.ListN.{length, drop, get_or, drop_of_length-le}
use lib.Seq.{drop_at, drop-drop, drop-cons, get_or-append-add}
use borrow.Author.Tests.{ltb-true, ltb-false}
use Rattle.octets.specs.Bytes.{zeros}
use Rattle.octets.specs.Compare.{order_of}
use Rattle.std.specs.declared.cmp.Ordering.TheVariants.{Less, Equal, Greater}
use Rattle.id.specs.declared.Id.{Id}
use Rattle.id.specs.Id.{greatest}
use Rattle.groups.specs.declared.Spot.TheVariants.{Known, New}
use Rattle.groups.specs.Group.{Group, is_group}
use Rattle.groups.specs.Bytes.{region_bytes}
use Rattle.groups.specs.Parse.{name_in}
use Rattle.groups.specs.Answer.{spot_from}
use Rattle.groups.specs.Area.{names_of, are_groups, regions, area_bytes}
use Rattle.group_area.specs.Answer.{groups_in, SoundArea}
use Rattle.groups.proofs.Laws.{first, Sound, sound, length_regions, length_area_bytes, length_names, named, rules, length_region, first_byte_lem}
use Rattle.group_area.proofs.Judgement.{name_first}

-- the region of group k, and what follows it
module _ {C : Type 0} (last : Id) (z : List ℕ) where
  from_region : (gs : List Group) (k : ℕ) → are_groups last gs ≡ true → k < length gs
      → ((g : Group) (t : List ℕ) → is_group g ≡ true → get_or (names_of gs) k [] ≡ g.name → drop (k * 7220) (regions gs ++ z) ≡ region_bytes g ++ t → C)
      → C
  unfolding regions
  from_region [] k e h c = absurd (omega arith)
  from_region (g ∷ gs) zero e h c = c g (regions gs ++ z) (first last g gs e).is_group_lem refl (append_assoc (region_bytes g) (regions gs) z)
  from_region (g ∷ gs) (suc k) e h c =
      let f = first last g gs e in
      let m : suc k * 7220 ≡ 7220 + k * 7220 = omega arith in
      let s : List ℕ = (region_bytes g ++ regions gs) ++ z in
      let d : drop (suc k * 7220) s ≡ drop (k * 7220) (regions gs ++ z) =
      ap (λ (i : ℕ). drop i s) m
      ∙ sym (drop-drop (k * 7220) 7220 s)
      ∙ ap (λ (l : List ℕ). drop (k * 7220) (drop 7220 l)) (append_assoc (region_bytes g) (regions gs) z)
      ∙ ap (drop (k * 7220)) (drop_at (region_bytes g) (regions gs ++ z) 7220 (length_region g (rules g f.is_group_lem))) in
      from_region gs k f.others (omega arith) (λ x t i q r. c x t i q (d ∙ r))

zero_get_d : (n i : ℕ) → get_or (zeros n) i 0 ≡ 0
zero_get_d zero i = refl
zero_get_d (suc n) zero = refl
zero_get_d (suc n) (suc i) = zero_get_d n i

-- the first byte of a region: the length of a name, or 0
module _ (last : Id) (gs : List Group) (e : are_groups last gs ≡ true) (k : ℕ) where
  free_first : length gs ≤ k → get_or (area_bytes gs) (k * 7220) 0 ≡ 0
  unfolding area_bytes
  free_first h =
      let d : ℕ = k * 7220 - length gs * 7220 in
      let z : List ℕ = zeros (57760 - length gs * 7220) in
      let q : k * 7220 ≡ length (regions gs) + d = omega (arith, length_regions last gs e) in
      ap (λ (i : ℕ). get_or (regions gs ++ z) i 0) q ∙ get_or-append-add (regions gs) z d 0 ∙ zero_get_d (57760 - length gs * 7220) d

pub record UsedRegion (s : List ℕ) (at k : ℕ) (ns : List (List ℕ)) : Type 0 where
  pub within : k < length ns
  pub size : get_or s at 0 ≡ length (get_or ns k [])
  pub some_bytes : 1 ≤ get_or s at 0
  pub few_bytes : get_or s at 0 ≤ 16
  pub name : name_in (drop at s) ≡ get_or ns k []

used_at : (last : Id) (gs : List Group) (k at : ℕ) → are_groups last gs ≡ true → at ≡ k * 7220 → k < length gs → UsedRegion (area_bytes gs) at k (names_of gs)
unfolding area_bytes
used_at last gs k at e q h =
    let z : List ℕ = zeros (57760 - length gs * 7220) in
    let s : List ℕ = regions gs ++ z in
    from_region last z gs k e h λ g t i m d.
    let w = named g.name (rules g i).named in
    let f : drop at s ≡ region_bytes g ++ t = ap (λ (j : ℕ). drop j s) q ∙ d in
    let b : get_or s at 0 ≡ length g.name = sym (first_byte_lem at s) ∙ ap (λ (l : List ℕ). get_or l 0 0) f ∙ begins_with g t in
    let c : length (get_or (names_of gs) k []) ≡ length g.name = ap length m in
    record {
      within = omega (arith, length_names gs);
      size = b ∙ sym c;
      some_bytes = omega (arith, w.some_bytes);
      few_bytes = omega (arith, w.few_bytes);
      name = ap name_in f ∙ name_first g t i ∙ sym m;
    }
  where
    begins_with : (g : Group) (t : List ℕ) → get_or (region_bytes g ++ t) 0 0 ≡ length g.name
    begins_with g t = unfold region_bytes in refl

module _ (s : List ℕ) (h : SoundArea s) (k at : ℕ) (q : at ≡ k * 7220) where
  abbrev gs : List Group
  gs = groups_in s

  r : Sound greatest gs
  r = sound greatest gs h.rules_kept

  used_case : (t : Bool) → ltb k (length gs) ≡ t → (get_or s at 0 ≡ 0 → ⊥) → UsedRegion s at k (names_of gs)
  used_case true e n =
      subst (λ (l : List ℕ). UsedRegion l at k (names_of gs)) (sym h.laid) (used_at greatest gs k at r.groups q (ltb-true k (length gs) e))
  used_case false e n =
      absurd (n (ap₂ (λ (l : List ℕ) (i : ℕ). get_or l i 0) h.laid q ∙ free_first greatest gs r.groups k (ltb-false k (length gs) e)))

  pub used_region : (get_or s at 0 ≡ 0 → ⊥) → UsedRegion s at k (names_of gs)
  used_region n = used_case (ltb k (length gs)) refl n

  free_case : (t : Bool) → ltb k (length gs) ≡ t → get_or s at 0 ≡ 0 → length (names_of gs) ≤ k
  free_case true e n =
      let u = used_at greatest gs k at r.groups q (ltb-true k (length gs) e) in
      let p : get_or s at 0 ≡ get_or (area_bytes gs) at 0 = ap (λ (l : List ℕ). get_or l at 0) h.laid in
      absurd (omega (arith, u.some_bytes))
  free_case false e n = omega (arith, length_names gs, ltb-false k (length gs) e)

  pub free_region : get_or s at 0 ≡ 0 → length (names_of gs) ≤ k
  free_region n = free_case (ltb k (length gs)) refl n

-- the search, a turn later
module _ (n : List ℕ) (ns : List (List ℕ)) (k : ℕ) where
  pub spot_end : length ns ≤ k → spot_from k n (drop k ns) ≡ New k
  unfolding spot_from
  spot_end h = ap (spot_from k n) (drop_of_length-le ns h)

  module _ (h : k < length ns) where
    cut : drop k ns ≡ get_or ns k [] ∷ drop (k + 1) ns
    cut = drop-cons ns k [] h ∙ ap (λ (i : ℕ). get_or ns k [] ∷ drop i ns) (sym (add-one k))

    pub spot_less : order_of n (get_or ns k []) ≡ Less → spot_from k n (drop k ns) ≡ New k
    unfolding spot_from
    spot_less o = ap (spot_from k n) cut ∙ rw o

    pub spot_equal : order_of n (get_or ns k []) ≡ Equal → spot_from k n (drop k ns) ≡ Known k
    unfolding spot_from
    spot_equal o = ap (spot_from k n) cut ∙ rw o

    pub spot_greater : order_of n (get_or ns k []) ≡ Greater → spot_from k n (drop k ns) ≡ spot_from (k + 1) n (drop (k + 1) ns)
    unfolding spot_from
    spot_greater o = ap (spot_from k n) cut ∙ rw o

-- what a sound area says of its size
pub sound_size : (s : List ℕ) → SoundArea s → length s ≡ 57760
sound_size s h =
    let r = sound greatest (groups_in s) h.rules_kept in
    ap length h.laid ∙ length_area_bytes greatest (groups_in s) r.groups r.few

pub few_names : (s : List ℕ) → SoundArea s → length (names_of (groups_in s)) ≤ 8
few_names s h = omega (arith, length_names (groups_in s), (sound greatest (groups_in s) h.rules_kept).few)
