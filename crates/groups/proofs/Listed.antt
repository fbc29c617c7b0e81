-- The groups by rising name: one put in or in the place of its namesake, one taken out, one found, and the rules that are kept.
-- Assumes nothing.
use mathlib.Core.Path.{◌≡◌, refl, sym, ap, ◌∙◌, subst}
use mathlib.Core.Bool.{Bool, true, false}
use mathlib.Core.List.{List, [], ◌∷◌, ◌++◌}
use Rattle.std.proofs.Common.{Some, None}
use Prim.Native.Nat.{ℕ, suc, ◌+◌, ◌-◌, ◌≤◌, ◌<◌}
use native.Mathlib.Omega.{arith}
use lib.ListN.{length, take, drop}
use Rattle.octets.specs.Pick.{pick}
use Rattle.octets.specs.Compare.{same, order_of, is_less, comes_before}
use Rattle.std.specs.declared.cmp.Ordering.TheVariants.{Less, Equal, Greater}
use Rattle.octets.proofs.Laws.{order_equal, never, before_differs}
use Rattle.id.specs.declared.Id.{Id}
use Rattle.id.specs.Id.{Fits64}
use Rattle.groups.specs.declared.Spot.TheVariants.{Known, New}
use Rattle.groups.specs.Group.{Group, is_name, are_names, names_above, is_among, are_pending, pending_above, pending_up_to, is_group}
use Rattle.groups.specs.Step.{with_name, without_name, find_group, put_group, without_group, new_group}
use Rattle.groups.specs.Answer.{spot_by, spot_from}
use Rattle.groups.specs.Area.{names_of, are_groups, is_groups}
use Rattle.groups.proofs.Rules.{is_group_lem, rules}
use Rattle.groups.proofs.Names.{after_differs, named, empty_before}
use Rattle.groups.proofs.Consumers.{with_known, by_name, greater_before, equal_same, with_equal, with_less, with_greater, above_with, above_without}
use Rattle.groups.proofs.Groups.{First, first, joined, sound, are_sound}

pub length_names : (gs : List Group) → length (names_of gs) ≡ length gs
length_names [] = refl
length_names (g ∷ gs) = ap suc (length_names gs)

-- by the order of the name and the first group's
module _ (g h : Group) (hs : List Group) where
  pub put_less : order_of g.name h.name ≡ Less → put_group g (h ∷ hs) ≡ g ∷ (h ∷ hs)
  unfolding put_group
  put_less o = rw (before_differs g.name h.name (ap is_less o), o)

  pub put_equal : order_of g.name h.name ≡ Equal → put_group g (h ∷ hs) ≡ g ∷ hs
  unfolding put_group
  put_equal o = rw (equal_same g.name h.name o)

  pub put_greater : order_of g.name h.name ≡ Greater → put_group g (h ∷ hs) ≡ h ∷ put_group g hs
  unfolding put_group
  put_greater o = rw (after_differs h.name g.name (greater_before g.name h.name o), o)

pub put_none : (g : Group) → put_group g [] ≡ g ∷ []
unfolding put_group
put_none g = refl

module _ (n : List ℕ) (h : Group) (hs : List Group) where
  pub find_first : same n h.name ≡ true → find_group n (h ∷ hs) ≡ Some h
  unfolding find_group
  find_first e = rw e

  pub find_later : same n h.name ≡ false → find_group n (h ∷ hs) ≡ find_group n hs
  unfolding find_group
  find_later e = rw e

  without_first : same n h.name ≡ true → without_group n (h ∷ hs) ≡ hs
  unfolding without_group
  without_first e = rw e

  without_later : same n h.name ≡ false → without_group n (h ∷ hs) ≡ h ∷ without_group n hs
  unfolding without_group
  without_later e = rw e

-- the group at place k has the name
pub record StandsAt (k : ℕ) (n : List ℕ) (gs : List Group) : Type 0 where
  pub group : Group
  pub within : k < length gs
  pub named_so : group.name ≡ n
  pub split : gs ≡ take k gs ++ (group ∷ drop (suc k) gs)
  pub found : find_group n gs ≡ Some group
  pub put_there : (h : Group) → h.name ≡ n → put_group h gs ≡ take k gs ++ (h ∷ drop (suc k) gs)
  pub without : without_group n gs ≡ take k gs ++ drop (suc k) gs

module _ (n : List ℕ) (g : Group) (gs : List Group) where
  stands_first : order_of n g.name ≡ Equal → StandsAt 0 n (g ∷ gs)
  stands_first o =
      record {
        group = g;
        within = omega arith;
        named_so = sym (order_equal n g.name o);
        split = refl;
        found = find_first n g gs (equal_same n g.name o);
        put_there = λ h e. put_equal h g gs (ap (λ (m : List ℕ). order_of m g.name) e ∙ o);
        without = without_first n g gs (equal_same n g.name o);
      }

  stands_later : (k : ℕ) → order_of n g.name ≡ Greater → StandsAt k n gs → StandsAt (suc k) n (g ∷ gs)
  stands_later k o x =
      let d : same n g.name ≡ false = after_differs g.name n (greater_before n g.name o) in
      record {
        group = x.group;
        within = omega (arith, x.within);
        named_so = x.named_so;
        split = ap (λ (l : List Group). g ∷ l) x.split;
        found = find_later n g gs d ∙ x.found;
        put_there = λ h e. put_greater h g gs (ap (λ (m : List ℕ). order_of m g.name) e ∙ o) ∙ ap (λ (l : List Group). g ∷ l) (x.put_there h e);
        without = without_later n g gs d ∙ ap (λ (l : List Group). g ∷ l) x.without;
      }

-- the search that began at place j ended at place k
record From (j k : ℕ) (P : ℕ → Type 0) : Type 0 where
  from : j ≤ k
  there : P (k - j)

abbrev at_place : List ℕ → List Group → ℕ → Type 0
at_place n gs k = StandsAt k n gs

module _ (j : ℕ) (n : List ℕ) (g : Group) (gs : List Group) (k : ℕ) where
  here : j ≡ k → order_of n g.name ≡ Equal → From j k (at_place n (g ∷ gs))
  here q o =
      let z : 0 ≡ k - j = omega arith in
      record { from = omega arith; there = subst (at_place n (g ∷ gs)) z (stands_first n g gs o) }

  later : order_of n g.name ≡ Greater → From (j + 1) k (at_place n gs) → From j k (at_place n (g ∷ gs))
  later o x =
      let h = x.from in
      let z : suc (k - (j + 1)) ≡ k - j = omega arith in
      record { from = omega arith; there = subst (at_place n (g ∷ gs)) z (stands_later n g gs (k - (j + 1)) o x.there) }

  stands_step : spot_by (order_of n g.name) j (spot_from (j + 1) n (names_of gs)) ≡ Known k
      → (spot_from (j + 1) n (names_of gs) ≡ Known k → From (j + 1) k (at_place n gs)) → From j k (at_place n (g ∷ gs))
  stands_step e r =
      by_name n g.name
      (λ o. absurd (let f : New j ≡ Known k = rw o at e in let z : ◌≡◌ {A = ℕ} 0 1 = cc in omega arith))
      (λ o. let f : Known j ≡ Known k = rw o at e in here (cc) o)
      (λ o. let f : spot_from (j + 1) n (names_of gs) ≡ Known k = rw o at e in later o (r f))

stands_from : (j : ℕ) (n : List ℕ) (gs : List Group) (k : ℕ) → spot_from j n (names_of gs) ≡ Known k → From j k (at_place n gs)
unfolding spot_from
stands_from j n [] k e = absurd (let z : ◌≡◌ {A = ℕ} 0 1 = cc in omega arith)
stands_from j n (g ∷ gs) k e = stands_step j n g gs k e (stands_from (j + 1) n gs k)

-- no group has the name, and a new one goes to place k
pub record Missing (k : ℕ) (n : List ℕ) (gs : List Group) : Type 0 where
  pub within : k ≤ length gs
  pub put_in : (h : Group) → h.name ≡ n → put_group h gs ≡ take k gs ++ (h ∷ drop k gs)

abbrev no_place : List ℕ → List Group → ℕ → Type 0
no_place n gs k = Missing k n gs

module _ (j : ℕ) (n : List ℕ) (k : ℕ) where
  missing_none : j ≡ k → From j k (no_place n [])
  missing_none q =
      let z : 0 ≡ k - j = omega arith in
      record { from = omega arith; there = subst (no_place n []) z (record { within = omega arith; put_in = λ h f. put_none h }) }

  module _ (g : Group) (gs : List Group) where
    missing_here : j ≡ k → order_of n g.name ≡ Less → From j k (no_place n (g ∷ gs))
    missing_here q o =
        let z : 0 ≡ k - j = omega arith in
        record {
          from = omega arith;
          there = subst (no_place n (g ∷ gs)) z
              (record { within = omega arith; put_in = λ h i. put_less h g gs (ap (λ (m : List ℕ). order_of m g.name) i ∙ o) });
        }

    missing_later : order_of n g.name ≡ Greater → From (j + 1) k (no_place n gs) → From j k (no_place n (g ∷ gs))
    missing_later o x =
        let h = x.from in
        let y = x.there in
        let z : suc (k - (j + 1)) ≡ k - j = omega arith in
        record {
          from = omega arith;
          there = subst (no_place n (g ∷ gs)) z
              (record {
                within = omega (arith, y.within);
                put_in = λ p i. put_greater p g gs (ap (λ (m : List ℕ). order_of m g.name) i ∙ o) ∙ ap (λ (l : List Group). g ∷ l) (y.put_in p i);
              });
        }

    missing_step : spot_by (order_of n g.name) j (spot_from (j + 1) n (names_of gs)) ≡ New k
        → (spot_from (j + 1) n (names_of gs) ≡ New k → From (j + 1) k (no_place n gs)) → From j k (no_place n (g ∷ gs))
    missing_step e r =
        by_name n g.name
        (λ o. let f : New j ≡ New k = rw o at e in missing_here (cc) o)
        (λ o. absurd (let f : Known j ≡ New k = rw o at e in let z : ◌≡◌ {A = ℕ} 0 1 = cc in omega arith))
        (λ o. let f : spot_from (j + 1) n (names_of gs) ≡ New k = rw o at e in missing_later o (r f))

missing_from : (j : ℕ) (n : List ℕ) (gs : List Group) (k : ℕ) → spot_from j n (names_of gs) ≡ New k → From j k (no_place n gs)
unfolding spot_from
missing_from j n [] k e = missing_none j n k (cc)
missing_from j n (g ∷ gs) k e = missing_step j n k g gs e (missing_from (j + 1) n gs k)

module _ (n : List ℕ) (gs : List Group) (k : ℕ) where
  whole : k - 0 ≡ k
  whole = omega arith

  pub stands_at : spot_from 0 n (names_of gs) ≡ Known k → StandsAt k n gs
  stands_at e = subst (at_place n gs) whole (stands_from 0 n gs k e).there

  pub missing_at : spot_from 0 n (names_of gs) ≡ New k → Missing k n gs
  missing_at e = subst (no_place n gs) whole (missing_from 0 n gs k e).there

-- no group has the name
unknown_case : (n : List ℕ) (g : Group) (gs : List Group) (t : Bool) → same n g.name ≡ t → pick t true (is_among n (names_of gs)) ≡ false
    → (is_among n (names_of gs) ≡ false → find_group n gs ≡ None) → find_group n (g ∷ gs) ≡ None
unknown_case n g gs true e h r = absurd (never refl h)
unknown_case n g gs false e h r = find_later n g gs e ∙ r h

pub find_unknown : (n : List ℕ) (gs : List Group) → is_among n (names_of gs) ≡ false → find_group n gs ≡ None
unfolding is_among
find_unknown n [] e = unfold find_group in refl
find_unknown n (g ∷ gs) e = unknown_case n g gs (same n g.name) refl e (find_unknown n gs)

-- the names, with one more and with one less
names_put : (g : Group) (gs : List Group) → names_of (put_group g gs) ≡ with_name g.name (names_of gs)
names_put g [] = ap names_of (put_none g) ∙ (unfold with_name in refl)
names_put g (h ∷ hs) =
    by_name g.name h.name
    (λ o. ap names_of (put_less g h hs o) ∙ sym (with_less g.name h.name (names_of hs) o))
    (λ o.
    ap names_of (put_equal g h hs o)
    ∙ ap (λ (m : List ℕ). m ∷ names_of hs) (order_equal g.name h.name o)
    ∙ sym (with_equal g.name h.name (names_of hs) o))
    (λ o.
    ap names_of (put_greater g h hs o)
    ∙ ap (λ (l : List (List ℕ)). h.name ∷ l) (names_put g hs)
    ∙ sym (with_greater g.name h.name (names_of hs) o))

names_pick : (g : Group) (gs hs : List Group) (t : Bool) → names_of (pick t gs (g ∷ hs)) ≡ pick t (names_of gs) (g.name ∷ names_of hs)
names_pick g gs hs true = refl
names_pick g gs hs false = refl

names_without : (n : List ℕ) (gs : List Group) → names_of (without_group n gs) ≡ without_name n (names_of gs)
unfolding without_group without_name
names_without n [] = refl
names_without n (g ∷ gs) =
    names_pick g gs (without_group n gs) (same n g.name)
    ∙ ap (λ (l : List (List ℕ)). pick (same n g.name) (names_of gs) (g.name ∷ l)) (names_without n gs)

length_put : (g : Group) (gs : List Group) → length (put_group g gs) ≤ suc (length gs)
length_put g [] = rw (put_none g) (omega arith)
length_put g (h ∷ hs) =
    by_name g.name h.name
    (λ o. rw (put_less g h hs o) (omega arith))
    (λ o. rw (put_equal g h hs o) (omega arith))
    (λ o. rw (put_greater g h hs o) (let k = length_put g hs in omega arith))

module _ (last : Id) where
  are_put : (g : Group) → is_group g ≡ true → pending_up_to last g.pending ≡ true → (gs : List Group) → are_groups last gs ≡ true
      → are_groups last (put_group g gs) ≡ true
  are_put g k u [] e = rw (put_none g) (joined last g [] (record { is_group_lem = k; up_to_lem = u; others = e }))
  are_put g k u (h ∷ hs) e =
      let f = first last h hs e in
      by_name g.name h.name
      (λ o. rw (put_less g h hs o) (joined last g (h ∷ hs) (record { is_group_lem = k; up_to_lem = u; others = e })))
      (λ o. rw (put_equal g h hs o) (joined last g hs (record { is_group_lem = k; up_to_lem = u; others = f.others })))
      (λ o.
      rw (put_greater g h hs o)
      (joined last h (put_group g hs) (record { is_group_lem = f.is_group_lem; up_to_lem = f.up_to_lem; others = are_put g k u hs f.others })))

  without_case : (g : Group) (gs hs : List Group) (t : Bool) → First last g gs → are_groups last hs ≡ true → are_groups last (pick t gs (g ∷ hs)) ≡ true
  without_case g gs hs true f e = f.others
  without_case g gs hs false f e = joined last g hs (record { is_group_lem = f.is_group_lem; up_to_lem = f.up_to_lem; others = e })

  are_without : (n : List ℕ) (gs : List Group) → are_groups last gs ≡ true → are_groups last (without_group n gs) ≡ true
  unfolding without_group
  are_without n [] e = e
  are_without n (g ∷ gs) e =
      let f = first last g gs e in without_case g gs (without_group n gs) (same n g.name) f (are_without n gs f.others)

  few_case : (g : Group) (gs hs : List Group) (t : Bool) → length hs ≤ length gs → length (pick t gs (g ∷ hs)) ≤ suc (length gs)
  few_case g gs hs true h = omega arith
  few_case g gs hs false h = omega arith

  fewer : (n : List ℕ) (gs : List Group) → length (without_group n gs) ≤ length gs
  unfolding without_group
  fewer n [] = omega arith
  fewer n (g ∷ gs) = few_case g gs (without_group n gs) (same n g.name) (fewer n gs)

  put_sound : (g : Group) (gs : List Group) → is_groups last gs ≡ true → is_group g ≡ true → pending_up_to last g.pending ≡ true
      → length (put_group g gs) ≤ 8 → is_groups last (put_group g gs) ≡ true
  put_sound g gs e k u h =
      let r = sound last gs e in
      let b : comes_before [] g.name ≡ true = empty_before g.name (named g.name (rules g k).named).some_bytes in
      are_sound last (put_group g gs)
      (record {
        few = h;
        rising = ap (names_above []) (names_put g gs) ∙ above_with g.name [] b (names_of gs) r.rising;
        groups = are_put g k u gs r.groups;
      })

  -- a group changed, and a group more
  pub put_kept : (g : Group) (gs : List Group) → is_groups last gs ≡ true → is_group g ≡ true → pending_up_to last g.pending ≡ true
      → is_among g.name (names_of gs) ≡ true → is_groups last (put_group g gs) ≡ true
  put_kept g gs e k u m =
      let r = sound last gs e in
      let l : length (put_group g gs) ≡ length gs =
      sym (length_names (put_group g gs)) ∙ ap length (names_put g gs ∙ with_known g.name [] (names_of gs) r.rising m) ∙ length_names gs in
      put_sound g gs e k u (omega (arith, r.few))

  pub new_kept : (g : Group) (gs : List Group) → is_groups last gs ≡ true → is_group g ≡ true → pending_up_to last g.pending ≡ true
      → length gs < 8 → is_groups last (put_group g gs) ≡ true
  new_kept g gs e k u h = put_sound g gs e k u (omega (arith, length_put g gs))

  pub without_kept : (n : List ℕ) (gs : List Group) → is_groups last gs ≡ true → is_groups last (without_group n gs) ≡ true
  without_kept n gs e =
      let r = sound last gs e in
      are_sound last (without_group n gs)
      (record {
        few = omega (arith, fewer n gs, r.few);
        rising = ap (names_above []) (names_without n gs) ∙ above_without n [] (names_of gs) r.rising;
        groups = are_without n gs r.groups;
      })

-- a new group keeps the rules, and has nothing pending
pub new_is_group : (n : List ℕ) (start : Id) → is_name n ≡ true → Fits64 start → is_group (new_group n start) ≡ true
new_is_group n start e f =
    is_group_lem (new_group n start)
    (record {
      named = e;
      fits = f;
      few = omega arith;
      names = unfold are_names in refl;
      rising = unfold names_above in refl;
      room = omega arith;
      entries = unfold are_pending in refl;
      above = unfold pending_above in refl;
      up_to_lem = unfold pending_up_to in refl;
    })

pub new_up_to : (last : Id) (n : List ℕ) (start : Id) → pending_up_to last (new_group n start).pending ≡ true
unfolding pending_up_to
new_up_to last n start = refl
