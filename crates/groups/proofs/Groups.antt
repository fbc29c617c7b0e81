-- The rules of the groups, one by one, and how long their regions are. Assumes nothing.
use mathlib.Core.Path.{◌≡◌, refl, sym, ap, ◌∙◌}
use mathlib.Core.Bool.{true, false}
use mathlib.Core.List.{List, [], ◌∷◌, ◌++◌, append_assoc}
use Prim.Native.Nat.{ℕ, ◌*◌, ◌≤◌}
use native.Mathlib.Omega.{arith}
use lib.Dec.{leb}
use lib.ListN.{length, length-append}
use borrow.Author.Tests.{leb-true, le-leb, ne_eqb}
use Rattle.octets.specs.Pick.{both}
use Rattle.octets.specs.Compare.{all_zero}
use Rattle.octets.proofs.Laws.{both_true, both_of}
use Rattle.id.specs.declared.Id.{Id}
use Rattle.groups.specs.Group.{Group, are_names, names_above, rising_names, pending_up_to, is_group}
use Rattle.groups.specs.Bytes.{region_bytes}
use Rattle.groups.specs.Area.{most_groups, names_of, are_groups, is_groups, regions}
use Rattle.groups.proofs.Names.{named, rising_above, above_rising}
use Rattle.groups.proofs.Rules.{rules}
use Rattle.groups.proofs.Regions.{length_region}

-- the first group and the others
pub record First (last : Id) (g : Group) (gs : List Group) : Type 0 where
  pub is_group_lem : is_group g ≡ true
  pub up_to_lem : pending_up_to last g.pending ≡ true
  pub others : are_groups last gs ≡ true

pub first : (last : Id) (g : Group) (gs : List Group) → are_groups last (g ∷ gs) ≡ true → First last g gs
unfolding are_groups
first last g gs e =
    let p = both_true (both (is_group g) (pending_up_to last g.pending)) (are_groups last gs) e in
    let q = both_true (is_group g) (pending_up_to last g.pending) p.0 in
    record { is_group_lem = q.0; up_to_lem = q.1; others = p.1 }

pub joined : (last : Id) (g : Group) (gs : List Group) → First last g gs → are_groups last (g ∷ gs) ≡ true
unfolding are_groups
joined last g gs f = both_of (both_of f.is_group_lem f.up_to_lem) f.others

pub are_named : (last : Id) (gs : List Group) → are_groups last gs ≡ true → are_names (names_of gs) ≡ true
unfolding are_names
are_named last [] e = refl
are_named last (g ∷ gs) e =
    let f = first last g gs e in both_of (rules g f.is_group_lem).named (are_named last gs f.others)

-- the rules of the groups; their names rise above the empty one
pub record Sound (last : Id) (gs : List Group) : Type 0 where
  pub few : length gs ≤ 8
  pub rising : names_above [] (names_of gs) ≡ true
  pub groups : are_groups last gs ≡ true

module _ (last : Id) (gs : List Group) where
  pub sound : is_groups last gs ≡ true → Sound last gs
  unfolding is_groups
  sound e =
      let p = both_true (leb (length gs) most_groups) (both (rising_names (names_of gs)) (are_groups last gs)) e in
      let q = both_true (rising_names (names_of gs)) (are_groups last gs) p.1 in
      record { few = leb-true (length gs) most_groups p.0; rising = rising_above (names_of gs) (are_named last gs q.1) q.0; groups = q.1 }

  pub are_sound : Sound last gs → is_groups last gs ≡ true
  unfolding is_groups
  are_sound r = both_of (le-leb (length gs) most_groups r.few) (both_of (above_rising [] (names_of gs) r.rising) r.groups)

-- a group's region begins with the length of its name, so it is not free
pub not_free : (g : Group) (t : List ℕ) → is_group g ≡ true → all_zero (region_bytes g ++ t) ≡ false
unfolding region_bytes all_zero
not_free g t e =
    let h = (named g.name (rules g e).named).some_bytes in rw (ne_eqb (length g.name) 0 (omega arith))

pub length_regions : (last : Id) (gs : List Group) → are_groups last gs ≡ true → length (regions gs) ≡ length gs * 7220
unfolding regions
length_regions last [] e = refl
length_regions last (g ∷ gs) e =
    let f = first last g gs e in
    omega (arith, length-append (region_bytes g) (regions gs), length_region g (rules g f.is_group_lem), length_regions last gs f.others)

pub regions_append : (xs ys : List Group) → regions (xs ++ ys) ≡ regions xs ++ regions ys
unfolding regions
regions_append [] ys = refl
regions_append (g ∷ xs) ys =
    ap (λ (l : List ℕ). region_bytes g ++ l) (regions_append xs ys) ∙ sym (append_assoc (region_bytes g) (regions xs) (regions ys))
