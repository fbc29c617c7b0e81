-- The groups of a sound area, region by region. Assumes nothing.
use mathlib.Core.Path.{◌≡◌, refl, sym, ap, ap₂, ◌∙◌, subst}
use mathlib.Core.Bool.{Bool, true, false}
use mathlib.Core.List.{List, [], ◌∷◌, ◌++◌, map}
use Prim.Native.Nat.{ℕ, zero, suc, ◌+◌, ◌-◌, ◌*◌, ◌≤◌, ◌<◌}
use native.Mathlib.Numerals.{add-one}
use native.Mathlib.Omega.{arith}
use lib.Dec.{ltb}
use lib.ListN.{length, take, drop, get_or, set, length-map, drop_of_length-le}
use lib.Seq.{split_at, drop-cons, length-take-le, take_at}
use borrow.Author.Tests.{ltb-true, ltb-false}
use Rattle.octets.specs.Bytes.{zeros}
use Rattle.octets.specs.Place.{area, put}
use Rattle.octets.proofs.Laws.{part_is, get_d_area, put_none, put_first, drop_zeros}
use Rattle.id.specs.declared.Id.{Id}
use Rattle.id.specs.Id.{least, greatest}
use Rattle.groups.specs.Group.{Group, is_group}
use Rattle.groups.specs.Bytes.{body_bytes, region_bytes}
use Rattle.groups.specs.Parse.{group_in}
use Rattle.groups.specs.Step.{new_group}
use Rattle.groups.specs.Answer.{SoundRegion}
use Rattle.groups.specs.Area.{are_groups, area_bytes}
use Rattle.groups.proofs.Laws.{first, Sound, sound, group_in_lem, sound_region_lem, rules, named}
use Rattle.group_area.specs.Answer.{groups_in, SoundArea}
use Rattle.group_area.proofs.Laws.{region_at, region_free}
use Rattle.snapshot.specs.Bytes.{group_part, bodies}
use Rattle.save_contents.specs.declared.GroupSizes.{GroupSizes}
use Rattle.save_contents.specs.Measured.{body_sizes, group_sizes}

abbrev other : Group
other = new_group [] least

group_kept : (last : Id) (gs : List Group) (k : ℕ) → are_groups last gs ≡ true → k < length gs → is_group (get_or gs k other) ≡ true
group_kept last [] k e h = absurd (omega arith)
group_kept last (g ∷ gs) zero e h = (first last g gs e).is_group_lem
group_kept last (g ∷ gs) (suc k) e h = group_kept last gs k (first last g gs e).others (omega arith)

begins : (g : Group) → get_or (region_bytes g) 0 0 ≡ length g.name
unfolding region_bytes
begins g = refl

module _ (s : List ℕ) (a : SoundArea s) (k : ℕ) where
  abbrev gs : List Group
  gs = groups_in s

  abbrev region : List ℕ
  region = area (k * 7220) 7220 s

  r : Sound greatest gs
  r = sound greatest gs a.rules_kept

  begin : get_or s (k * 7220) 0 ≡ get_or region 0 0
  begin = let e : k * 7220 ≡ k * 7220 + 0 = omega arith in ap (λ (i : ℕ). get_or s i 0) e ∙ sym (get_d_area (k * 7220) 7220 s 0 (omega arith))

  module _ (h : k < length (groups_in s)) where
    abbrev g : Group
    g = get_or gs k other

    kept : is_group g ≡ true
    kept = group_kept greatest gs k r.groups h

    laid : region ≡ region_bytes g
    laid =
        let front : List Group = take k gs in
        let back : List Group = drop (suc k) gs in
        let e : gs ≡ front ++ (g ∷ back) = split_at gs k other h in
        let l : length front ≡ k = length-take-le k gs (omega arith) in
        ap (area (k * 7220) 7220) (a.laid ∙ ap area_bytes e)
        ∙ ap (λ (n : ℕ). area (n * 7220) 7220 (area_bytes (front ++ (g ∷ back)))) (sym l)
        ∙ region_at greatest front back g (ap (are_groups greatest) (sym e) ∙ r.groups)

    pub region_sound : SoundRegion (area (k * 7220) 7220 s)
    region_sound = subst SoundRegion (sym laid) (sound_region_lem g kept)

    pub region_group : drop k (groups_in s) ≡ group_in (area (k * 7220) 7220 s) ∷ drop (k + 1) (groups_in s)
    region_group =
        drop-cons gs k other h
        ∙ ap₂ (λ (x : Group) (n : ℕ). x ∷ drop n gs) (sym (ap group_in laid ∙ group_in_lem g kept)) (sym (add-one k))

    used : 1 ≤ get_or s (k * 7220) 0
    used = omega (arith, begin ∙ ap (λ (l : List ℕ). get_or l 0 0) laid ∙ begins g, (named g.name (rules g kept).named).some_bytes)

  free : length (groups_in s) ≤ k → k < 8 → get_or s (k * 7220) 0 ≡ 0
  free h m =
      begin ∙ ap (λ (l : List ℕ). get_or (area (k * 7220) 7220 l) 0 0) a.laid ∙ ap (λ (l : List ℕ). get_or l 0 0) (region_free greatest gs k r.groups h m)

  used_case : (t : Bool) → ltb k (length gs) ≡ t → k < 8 → (get_or s (k * 7220) 0 ≡ 0 → ⊥) → k < length gs
  used_case true e m n = ltb-true k (length gs) e
  used_case false e m n = absurd (n (free (ltb-false k (length gs) e) m))

  -- the first byte tells which
  pub is_used : k < 8 → (get_or s (k * 7220) 0 ≡ 0 → ⊥) → k < length (groups_in s)
  is_used m n = used_case (ltb k (length gs)) refl m n

  free_case : (t : Bool) → ltb k (length gs) ≡ t → get_or s (k * 7220) 0 ≡ 0 → length gs ≤ k
  free_case true e n = absurd (omega (arith, used (ltb-true k (length gs) e)))
  free_case false e n = ltb-false k (length gs) e

  pub is_free_lem : get_or s (k * 7220) 0 ≡ 0 → length (groups_in s) ≤ k
  is_free_lem n = free_case (ltb k (length gs)) refl n

pub few_groups : (s : List ℕ) → SoundArea s → length (groups_in s) ≤ 8
few_groups s a = (sound greatest (groups_in s) a.rules_kept).few

-- the sizes: one more, and all of them
pub size_turn : (s : List ℕ) (a : SoundArea s) (k n : ℕ) (z : List ℕ) → k < length (groups_in s) → k < length z → n ≡ length (body_bytes (group_in (area (k * 7220) 7220 s)))
    → put z k (body_sizes (drop k (groups_in s))) ≡ put (set z k n) (k + 1) (body_sizes (drop (k + 1) (groups_in s)))
size_turn s a k n z h l e =
    ap (λ (x : List Group). put z k (body_sizes x)) (region_group s a k h)
    ∙ ap (λ (m : ℕ). put z k (m ∷ body_sizes (drop (k + 1) (groups_in s)))) (sym e)
    ∙ put_first z k n (body_sizes (drop (k + 1) (groups_in s))) l

sizes_all : (gs : List Group) (k : ℕ) (z : List ℕ) → length gs ≤ k → put z k (body_sizes (drop k gs)) ≡ put (zeros 8) 0 (body_sizes gs) → z ≡ body_sizes gs ++ zeros (8 - length gs)
unfolding put
sizes_all gs k z h e =
    sym (put_none z k)
    ∙ ap (λ (x : List Group). put z k (body_sizes x)) (sym (drop_of_length-le gs h))
    ∙ e
    ∙ ap (λ (x : List ℕ). body_sizes gs ++ x) (drop_zeros (0 + length (body_sizes gs)) 8 ∙ ap zeros (let q : 8 - (0 + length (body_sizes gs)) ≡ 8 - length gs = omega (arith, length-map gs (λ (g : Group). length (body_bytes g))) in q))

abbrev sizes_with : ℕ → List ℕ → GroupSizes
sizes_with k z = record { n = k; size = z }

pub sizes_given : (gs : List Group) (k : ℕ) (z : List ℕ) → k ≤ length gs → length gs ≤ k → put z k (body_sizes (drop k gs)) ≡ put (zeros 8) 0 (body_sizes gs)
    → sizes_with k z ≡ group_sizes gs
sizes_given gs k z l h e =
    let q : k ≡ length gs = omega arith in
    ap₂ sizes_with q (sizes_all gs k z h e)

pub sizes_taken : (gs : List Group) → take (length gs) (body_sizes gs ++ zeros (8 - length gs)) ≡ body_sizes gs
sizes_taken gs = take_at (body_sizes gs) (zeros (8 - length gs)) (length gs) (length-map gs (λ (g : Group). length (body_bytes g)))

-- the bodies: one more, and none left
pub bodies_turn : (s : List ℕ) (a : SoundArea s) (k : ℕ) → k < length (groups_in s)
    → bodies (map group_part (drop k (groups_in s))) ≡ body_bytes (group_in (area (k * 7220) 7220 s)) ++ bodies (map group_part (drop (k + 1) (groups_in s)))
unfolding bodies
bodies_turn s a k h = ap (λ (x : List Group). bodies (map group_part x)) (region_group s a k h)

pub bodies_end : (gs : List Group) (k : ℕ) → length gs ≤ k → bodies (map group_part (drop k gs)) ≡ []
unfolding bodies
bodies_end gs k h = ap (λ (x : List Group). bodies (map group_part x)) (drop_of_length-le gs h)

-- a region that is lent as a part
pub part_sound : (s : List ℕ) (a : SoundArea s) (k : ℕ) → k < length (groups_in s) → SoundRegion (take (k * 7220 + 7220 - k * 7220) (drop (k * 7220) s))
part_sound s a k h = subst SoundRegion (sym (part_is (k * 7220) 7220 s)) (region_sound s a k h)

pub part_body : (s : List ℕ) (k : ℕ) → body_bytes (group_in (take (k * 7220 + 7220 - k * 7220) (drop (k * 7220) s))) ≡ body_bytes (group_in (area (k * 7220) 7220 s))
part_body s k = ap (λ (l : List ℕ). body_bytes (group_in l)) (part_is (k * 7220) 7220 s)
