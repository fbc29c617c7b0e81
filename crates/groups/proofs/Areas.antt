-- An area is read as its groups exactly when its bytes are the groups' and they keep the rules. Assumes nothing.
use mathlib.Core.Path.{◌≡◌, refl, sym, ap, ap₂, ◌∙◌, subst}
use mathlib.Core.Bool.{Bool, true, false}
use mathlib.Core.List.{List, [], ◌∷◌, ◌++◌, append_assoc}
use Rattle.std.proofs.Common.{Some}
use Prim.Native.Nat.{ℕ, zero, suc, ◌-◌, ◌*◌, ◌≤◌}
use native.Mathlib.Omega.{arith}
use lib.Dec.{eqb}
use lib.ListN.{length, take, drop, length-append, length-replicate, length-drop, take-append-drop}
use lib.Seq.{take_at, drop_at}
use borrow.Author.Tests.{eq-eqb, eqb-true}
use Rattle.octets.specs.Maybe.{◌>>=◌}
use Rattle.octets.specs.Bytes.{Bytes, zeros}
use Rattle.octets.specs.Compare.{all_zero}
use Rattle.octets.proofs.Laws.{zero_all, all_zero_lem, bytes_take, bytes_drop, answered, needed}
use Rattle.id.specs.declared.Id.{Id}
use Rattle.groups.specs.Group.{Group}
use Rattle.groups.specs.Bytes.{region_bytes}
use Rattle.groups.specs.Parse.{parse_region}
use Rattle.groups.specs.Area.{are_groups, is_groups, regions, area_bytes, parse_regions, parse_area}
use Rattle.groups.proofs.Groups.{first, sound, not_free, length_regions}
use Rattle.groups.proofs.Rules.{rules}
use Rattle.groups.proofs.Regions.{length_region, region_parse, region_bytes_lem}

-- free regions, and one that is used
module _ (n : ℕ) (s : List ℕ) where
  pub parse_free : all_zero s ≡ true → parse_regions (suc n) s ≡ Some []
  unfolding parse_regions
  parse_free z = rw (z, parse_regions)

  pub parse_used : all_zero s ≡ false
      → parse_regions (suc n) s ≡ (parse_region (take 7220 s) >>= λ g. parse_regions n (drop 7220 s) >>= λ gs. Some (g ∷ gs))
  unfolding parse_regions
  parse_used z = rw (z, parse_regions)

-- regions that were written, before any number of zeros
pub regions_parse : (last : Id) (n : ℕ) (gs : List Group) (z : ℕ) → are_groups last gs ≡ true → length gs ≤ n
    → parse_regions n (regions gs ++ zeros z) ≡ Some gs
unfolding regions
regions_parse last zero [] z e h = unfold parse_regions in refl
regions_parse last (suc n) [] z e h = parse_free n (zeros z) (zero_all z)
regions_parse last zero (g ∷ gs) z e h = absurd (omega arith)
regions_parse last (suc n) (g ∷ gs) z e h =
    let f = first last g gs e in
    let t : List ℕ = regions gs ++ zeros z in
    let l = length_region g (rules g f.is_group_lem) in
    rw (append_assoc (region_bytes g) (regions gs) (zeros z))
    (parse_used n (region_bytes g ++ t) (not_free g t f.is_group_lem)
    ∙ rw (take_at (region_bytes g) t 7220 l, drop_at (region_bytes g) t 7220 l, region_parse g f.is_group_lem, regions_parse last n gs z f.others (omega arith)))

pub length_area_bytes : (last : Id) (gs : List Group) → are_groups last gs ≡ true → length gs ≤ 8 → length (area_bytes gs) ≡ 57760
unfolding area_bytes
length_area_bytes last gs e h =
    let z : ℕ = 57760 - length gs * 7220 in
    omega (arith, length-append (regions gs) (zeros z), length_regions last gs e, length-replicate {A = ℕ} z 0)

pub length_groups_area : (last : Id) (gs : List Group) → is_groups last gs ≡ true → length (area_bytes gs) ≡ 57760
length_groups_area last gs e = let r = sound last gs e in length_area_bytes last gs r.groups r.few

-- the area of groups is read as those groups
pub area_parse : (last : Id) (gs : List Group) → is_groups last gs ≡ true → parse_area last (area_bytes gs) ≡ Some gs
unfolding parse_area area_bytes
area_parse last gs e =
    let r = sound last gs e in
    let l : length (regions gs ++ zeros (57760 - length gs * 7220)) ≡ 57760 = unfold area_bytes in length_area_bytes last gs r.groups r.few in
    rw (eq-eqb _ 57760 l, regions_parse last 8 gs (57760 - length gs * 7220) r.groups r.few, e)

-- regions that are read
pub record RegionsRead (n : ℕ) (s : List ℕ) (gs : List Group) : Type 0 where
  pub few : length gs ≤ n
  pub laid : s ≡ regions gs ++ zeros (n * 7220 - length gs * 7220)

free_read : (n : ℕ) (s : List ℕ) → length s ≡ n * 7220 → all_zero s ≡ true → s ≡ zeros (n * 7220 - 0)
free_read n s l z = let e : length s ≡ n * 7220 - 0 = omega arith in all_zero_lem s z ∙ ap zeros e

module _ (n : ℕ) (s : List ℕ) (gs : List Group) (b : Bytes s) (l : length s ≡ suc n * 7220)
    (next : (hs : List Group) → parse_regions n (drop 7220 s) ≡ Some hs → RegionsRead n (drop 7220 s) hs) where
  read_case : (t : Bool) → all_zero s ≡ t
      → elim t [ true ↦ Some [] | false ↦ (parse_region (take 7220 s) >>= λ g. parse_regions n (drop 7220 s) >>= λ hs. Some (g ∷ hs)) ] ≡ Some gs
      → RegionsRead (suc n) s gs
  unfolding regions
  read_case true z e =
      let q : [] ≡ gs = cc in
      subst (RegionsRead (suc n) s) q (record { few = omega arith; laid = free_read (suc n) s l z })
  read_case false z e =
      answered (parse_region (take 7220 s)) _ e λ g e1 k1.
      answered (parse_regions n (drop 7220 s)) _ k1 λ hs e2 k2.
      let q : g ∷ hs ≡ gs = cc in
      let r = region_bytes_lem (take 7220 s) g (bytes_take 7220 b) e1 in
      let w = next hs e2 in
      let m : n * 7220 - length hs * 7220 ≡ suc n * 7220 - suc (length hs) * 7220 = omega arith in
      subst (RegionsRead (suc n) s) q
      (record {
        few = omega (arith, w.few);
        laid = sym (take-append-drop 7220 s)
            ∙ ap₂ (λ (x y : List ℕ). x ++ y) r.bytes (w.laid ∙ ap (λ (k : ℕ). regions hs ++ zeros k) m)
            ∙ sym (append_assoc (region_bytes g) (regions hs) (zeros (suc n * 7220 - suc (length hs) * 7220)));
      })

pub regions_bytes : (n : ℕ) (s : List ℕ) (gs : List Group) → Bytes s → length s ≡ n * 7220 → parse_regions n s ≡ Some gs → RegionsRead n s gs
unfolding parse_regions regions
regions_bytes zero s gs b l e =
    let q : [] ≡ gs = cc in
    subst (RegionsRead zero s) q (record { few = omega arith; laid = no_bytes s l })
  where
    no_bytes : (s : List ℕ) → length s ≡ 0 → s ≡ []
    no_bytes [] l = refl
    no_bytes (x ∷ s) l = absurd (omega arith)
regions_bytes (suc n) s gs b l e =
    read_case n s gs b l (λ hs k. regions_bytes n (drop 7220 s) hs (bytes_drop 7220 b) (omega (arith, length-drop 7220 s)) k) (all_zero s) refl e

-- what is read as groups is their area
pub record AreaRead (last : Id) (s : List ℕ) (gs : List Group) : Type 0 where
  pub bytes : s ≡ area_bytes gs
  pub rules_kept : is_groups last gs ≡ true

pub area_bytes_lem : (last : Id) (s : List ℕ) (gs : List Group) → Bytes s → parse_area last s ≡ Some gs → AreaRead last s gs
unfolding parse_area area_bytes
area_bytes_lem last s gs b e =
    needed (eqb (length s) 57760) _ e λ l k.
    answered (parse_regions 8 s) _ k λ hs e1 k1.
    needed (is_groups last hs) (Some hs) k1 λ r k2.
    let q : hs ≡ gs = cc in
    subst (AreaRead last s) q (record { bytes = (regions_bytes 8 s hs b (eqb-true (length s) 57760 l) e1).laid; rules_kept = r })
