-- An area is judged region by region: each is sound by itself and its name above the one before, up to a free one after which all is
-- zero. That is the test of the whole. Assumes nothing.
use mathlib.Core.Path.{◌≡◌, refl, sym, ap, ◌∙◌}
use mathlib.Core.Bool.{Bool, true, false, not}
use mathlib.Core.List.{List, [], ◌∷◌, ◌++◌, append_assoc}
use Prim.Native.Nat.{ℕ, zero, suc, ◌+◌, ◌-◌, ◌*◌, ◌≤◌, ◌<◌}
use native.Mathlib.Omega.{arith}
use lib.Dec.{eqb}
use lib.ListN.{length, take, drop, get_or, length-drop, take-append-drop}
use lib.Seq.{length-take-le, drop-drop, get_or-take}
use borrow.Author.Tests.{le-leb, eq-eqb, ne_eqb, eqb-true, eqb-false}
use Rattle.octets.specs.Pick.{pick, both}
use Rattle.std.proofs.Common.{is_none, Option, Some, None}
use Rattle.octets.specs.Maybe.{◌>>=◌, ◌>>◌, need}
use Rattle.octets.specs.Bytes.{Bytes}
use Rattle.octets.specs.Compare.{all_zero, comes_before}
use Rattle.octets.proofs.Laws.{both_true, bytes_take, bytes_drop, both_false, both_assoc, needed_some}
use Rattle.id.specs.declared.Id.{Id}
use Rattle.groups.specs.Group.{Group, names_above, rising_names, pending_up_to, is_group}
use Rattle.groups.specs.Bytes.{name_field, region_bytes}
use Rattle.groups.specs.Parse.{name_in, is_region, parse_region, group_in}
use Rattle.groups.specs.Area.{most_groups, names_of, are_groups, is_groups, parse_regions, parse_area}
use Rattle.groups.proofs.Laws.{first, parse_free, parse_used, regions_bytes, named, empty_before, name_of_field, field_read, rules, tested, region_bytes_lem, first_byte_lem, region_unnamed, zero_no_field, used_not_zero}

-- so many regions whose names rise above one, test by test as the code does it
abbrev pub sound_region : Id → List ℕ → Bool
sound_region last s = both (is_region s) (pending_up_to last (group_in s).pending)

unfoldable pub judged_from : Id → List ℕ → ℕ → List ℕ → Bool
judged_from last above zero s = true
judged_from last above (suc n) s =
    pick (eqb (get_or s 0 0) 0) (all_zero s)
    (both (sound_region last (take 7220 s)) (both (comes_before above (name_in s)) (judged_from last (name_in s) n (drop 7220 s))))

-- the groups that are read pass
abbrev passes : Id → List ℕ → Option (List Group) → Bool
passes last above None = false
passes last above (Some gs) = both (names_above above (names_of gs)) (are_groups last gs)

-- the name that a region begins with
pub name_first : (g : Group) (t : List ℕ) → is_group g ≡ true → name_in (region_bytes g ++ t) ≡ g.name
unfolding region_bytes
name_first g t e = ap name_in (append_assoc (name_field g.name) _ t) ∙ name_of_field g.name _ (rules g e).named

module _ (last : Id) (above : List ℕ) (g : Group) (e : is_group g ≡ true) where
  one_more : (u : Bool) (o : Option (List Group)) → pending_up_to last g.pending ≡ u
      → both u (both (comes_before above g.name) (passes last g.name o)) ≡ passes last above (o >>= λ gs. Some (g ∷ gs))
  unfolding names_above are_groups
  one_more true None h = both_false (comes_before above g.name)
  one_more true (Some gs) h = rw (e, h) (both_assoc (comes_before above g.name) (names_above g.name (names_of gs)) (are_groups last gs))
  one_more false None h = refl
  one_more false (Some gs) h = rw (e, h) (sym (both_false (both (comes_before above g.name) (names_above g.name (names_of gs)))))

module _ (last : Id) (above : List ℕ) (n : ℕ) (s : List ℕ) (b : Bytes s) (l : length s ≡ suc n * 7220)
    (next : (a : List ℕ) → judged_from last a n (drop 7220 s) ≡ passes last a (parse_regions n (drop 7220 s))) where
  size : length (take 7220 s) ≡ 7220
  size = length-take-le 7220 s (omega arith)

  -- a region that is used
  used : (t : Bool) → is_region (take 7220 s) ≡ t
      → both (both t (pending_up_to last (group_in (take 7220 s)).pending)) (both (comes_before above (name_in s)) (judged_from last (name_in s) n (drop 7220 s)))
      ≡ passes last above ((need t >> Some (group_in (take 7220 s))) >>= λ g. parse_regions n (drop 7220 s) >>= λ gs. Some (g ∷ gs))
  used false e = refl
  used true e =
      let g : Group = group_in (take 7220 s) in
      let p : parse_region (take 7220 s) ≡ Some g = unfold parse_region in rw e in
      let r = region_bytes_lem (take 7220 s) g (bytes_take 7220 b) p in
      let m : name_in s ≡ g.name =
      ap name_in (sym (take-append-drop 7220 s) ∙ ap (λ (x : List ℕ). x ++ drop 7220 s) r.bytes) ∙ name_first g (drop 7220 s) r.rules_kept in
      ap (λ (x : List ℕ). both (pending_up_to last g.pending) (both (comes_before above x) (judged_from last x n (drop 7220 s)))) m
      ∙ ap (λ (x : Bool). both (pending_up_to last g.pending) (both (comes_before above g.name) x)) (next g.name)
      ∙ one_more last above g r.rules_kept (pending_up_to last g.pending) (parse_regions n (drop 7220 s)) refl

  -- one that begins with 0 is none's
  nameless : get_or s 0 0 ≡ 0 → parse_region (take 7220 s) ≡ None
  unfolding parse_region
  nameless z =
      rw (region_unnamed (take 7220 s) size (zero_no_field (take 7220 s) (get_or-take 7220 s 0 0 (omega arith) ∙ z)))

  free_case : (u : Bool) → all_zero s ≡ u → get_or s 0 0 ≡ 0 → u ≡ passes last above (parse_regions (suc n) s)
  free_case true e z = rw (parse_free n s e) (unfold names_above are_groups in refl)
  free_case false e z =
      ap (passes last above) (sym (parse_used n s e ∙ ap (λ (o : Option Group). o >>= λ g. parse_regions n (drop 7220 s) >>= λ gs. Some (g ∷ gs)) (nameless z)))

  by_first : (t : Bool) → eqb (get_or s 0 0) 0 ≡ t → judged_from last above (suc n) s ≡ passes last above (parse_regions (suc n) s)
  unfolding judged_from
  by_first true e = rw e (free_case (all_zero s) refl (eqb-true (get_or s 0 0) 0 e))
  by_first false e = rw e (used (is_region (take 7220 s)) refl ∙ ap (passes last above) (sym used_is))
    where
      used_is : parse_regions (suc n) s ≡ ((need (is_region (take 7220 s)) >> Some (group_in (take 7220 s))) >>= λ g. parse_regions n (drop 7220 s) >>= λ gs. Some (g ∷ gs))
      used_is = unfold parse_region in parse_used n s (used_not_zero s (eqb-false (get_or s 0 0) 0 e))

judged_is : (last : Id) (above : List ℕ) (n : ℕ) (s : List ℕ) → Bytes s → length s ≡ n * 7220
    → judged_from last above n s ≡ passes last above (parse_regions n s)
judged_is last above zero s b l = unfold judged_from parse_regions names_above are_groups in refl
judged_is last above (suc n) s b l =
    by_first last above n s b l (λ a. judged_is last a n (drop 7220 s) (bytes_drop 7220 b) (omega (arith, length-drop 7220 s))) (eqb (get_or s 0 0) 0) refl

-- the rules of the groups are those of each and that the names rise
module _ (last : Id) where
  rising_is : (gs : List Group) → are_groups last gs ≡ true → rising_names (names_of gs) ≡ names_above [] (names_of gs)
  unfolding rising_names names_above
  rising_is [] e = refl
  rising_is (g ∷ gs) e =
      let f = first last g gs e in
      rw (empty_before g.name (named g.name (rules g f.is_group_lem).named).some_bytes)

  groups_case : (gs : List Group) (t : Bool) → are_groups last gs ≡ t → both (rising_names (names_of gs)) t ≡ both (names_above [] (names_of gs)) t
  groups_case gs true e = ap (λ (x : Bool). both x true) (rising_is gs e)
  groups_case gs false e = both_false (rising_names (names_of gs)) ∙ sym (both_false (names_above [] (names_of gs)))

  groups_pass : (gs : List Group) → length gs ≤ 8 → is_groups last gs ≡ both (names_above [] (names_of gs)) (are_groups last gs)
  unfolding is_groups
  groups_pass gs h = rw (le-leb (length gs) most_groups h) (groups_case gs (are_groups last gs) refl)

whole_case : (last : Id) (s : List ℕ) (o : Option (List Group)) → Bytes s → length s ≡ 57760 → parse_regions 8 s ≡ o
    → passes last [] o ≡ not (is_none (o >>= λ gs. need (is_groups last gs) >> Some gs))
whole_case last s None b l e = refl
whole_case last s (Some gs) b l e =
    sym (needed_some (is_groups last gs) gs ∙ groups_pass last gs (regions_bytes 8 s gs b l e).few)

module _ (last : Id) (s : List ℕ) where
  pub judged_size : (length s ≡ 57760 → ⊥) → not (is_none (parse_area last s)) ≡ false
  unfolding parse_area
  judged_size h = rw (ne_eqb (length s) 57760 h)

  pub judged_whole : Bytes s → length s ≡ 57760 → judged_from last [] 8 s ≡ not (is_none (parse_area last s))
  unfolding parse_area
  judged_whole b l = rw (eq-eqb (length s) 57760 l) (judged_is last [] 8 s b l ∙ whole_case last s (parse_regions 8 s) b l refl)

-- what a region that is judged tells of the regions that are left; it is lent as a part
judged_step : (last : Id) (above : List ℕ) (left : ℕ) (s : List ℕ) → 0 < left
    → judged_from last above left s
    ≡ pick (eqb (get_or s 0 0) 0) (all_zero s)
    (both (sound_region last (take 7220 s)) (both (comes_before above (name_in s)) (judged_from last (name_in s) (left - 1) (drop 7220 s))))
unfolding judged_from
judged_step last above zero s h = absurd (omega arith)
judged_step last above (suc n) s h = let e : suc n - 1 ≡ n = omega arith in rw e

module _ (last : Id) (above : List ℕ) (left at : ℕ) (s : List ℕ) (h : 0 < left) where
  pub turn_free : get_or s at 0 ≡ 0 → judged_from last above left (drop at s) ≡ all_zero (drop at s)
  turn_free z = judged_step last above left (drop at s) h ∙ rw (eq-eqb (get_or (drop at s) 0 0) 0 (first_byte_lem at s ∙ z))

  module _ (n : get_or s at 0 ≡ 0 → ⊥) where
    abbrev lent : List ℕ
    lent = take (at + 7220 - at) (drop at s)

    part : lent ≡ take 7220 (drop at s)
    part = let e : at + 7220 - at ≡ 7220 = omega arith in ap (λ (k : ℕ). take k (drop at s)) e

    by_lent : (t : Bool) → sound_region last lent ≡ t → judged_from last above left (drop at s)
        ≡ both t (both (comes_before above (name_in (drop at s))) (judged_from last (name_in (drop at s)) (left - 1) (drop 7220 (drop at s))))
    by_lent t e =
        let z : eqb (get_or (drop at s) 0 0) 0 ≡ false = ne_eqb (get_or (drop at s) 0 0) 0 (λ q. n (sym (first_byte_lem at s) ∙ q)) in
        judged_step last above left (drop at s) h
        ∙ rw z (ap (λ (u : Bool). both u (both (comes_before above (name_in (drop at s))) (judged_from last (name_in (drop at s)) (left - 1) (drop 7220 (drop at s))))) (ap (sound_region last) (sym part) ∙ e))

    pub turn_bad : sound_region last lent ≡ false → judged_from last above left (drop at s) ≡ false
    turn_bad e = by_lent false e

    module _ (e : sound_region last lent ≡ true) where
      pub turn_low : comes_before above (name_in (drop at s)) ≡ false → judged_from last above left (drop at s) ≡ false
      turn_low f = by_lent true e ∙ rw f

      pub turn_next : comes_before above (name_in (drop at s)) ≡ true
          → judged_from last above left (drop at s) ≡ judged_from last (name_in (drop at s)) (left - 1) (drop (at + 7220) s)
      turn_next f = by_lent true e ∙ rw (f, drop-drop 7220 at s)

      -- it begins with a name
      pub begins : get_or s at 0 ≤ 16
      begins =
          let t = tested lent (both_true (is_region lent) (pending_up_to last (group_in lent).pending) e).0 in
          let f = field_read lent t.field (omega (arith, t.size)) in
          let q : get_or lent 0 0 ≡ get_or s at 0 = ap (λ (l : List ℕ). get_or l 0 0) part ∙ get_or-take 7220 (drop at s) 0 0 (omega arith) ∙ first_byte_lem at s in
          omega (arith, f.few_bytes)

pub judged_done : (last : Id) (above : List ℕ) (left : ℕ) (s : List ℕ) → left ≤ 0 → judged_from last above left s ≡ true
unfolding judged_from
judged_done last above zero s h = refl
judged_done last above (suc n) s h = absurd (omega arith)
