-- The groups by name: the one that is found, put back, taken out, and the rules of all with a later last ID. Assumes nothing.
use mathlib.Core.Path.{◌≡◌, refl, sym, ap, ◌∙◌, subst}
use mathlib.Core.Bool.{Bool, true, false}
use mathlib.Core.List.{List, [], ◌∷◌}
use Rattle.std.proofs.Common.{Some}
use Prim.Native.Nat.{ℕ}
use native.Mathlib.Omega.{arith}
use Rattle.octets.specs.Pick.{pick}
use Rattle.octets.specs.Compare.{same, order_of, comes_before}
use Rattle.std.specs.declared.cmp.Ordering.TheVariants.{Greater}
use Rattle.octets.proofs.Laws.{both_true, both_of, same_refl, same_true, mirror, order_mirror, before_trans}
use Rattle.id.specs.declared.Id.{Id}
use Rattle.id.specs.Id.{greatest, at_most}
use Rattle.id.proofs.Laws.{at_most_greatest}
use Rattle.groups.specs.Group.{Pending, Group, names_above, is_among, is_pending, are_pending, pending_up_to}
use Rattle.groups.specs.Step.{find_group, put_group, without_group}
use Rattle.groups.specs.Area.{names_of, are_groups, is_groups}
use Rattle.groups.proofs.Names.{before_less, after_differs}
use Rattle.groups.proofs.Entries.{entry}
use Rattle.groups.proofs.Rules.{rules}
use Rattle.groups.proofs.Kept.{up_to_later}
use Rattle.groups.proofs.Consumers.{by_name, greater_before, equal_same, among_first, among_later}
use Rattle.groups.proofs.Groups.{First, first, joined, sound, are_sound}
use Rattle.groups.proofs.Listed.{find_first, find_later, put_less, put_equal, put_greater, put_none}

-- every pending ID is at most the greatest ID
up_to_greatest : (cs : List (List ℕ)) (ps : List Pending) → are_pending cs ps ≡ true → pending_up_to greatest ps ≡ true
unfolding are_pending pending_up_to
up_to_greatest cs [] e = refl
up_to_greatest cs (p ∷ ps) e =
    let q = both_true (is_pending cs p) (are_pending cs ps) e in
    both_of (at_most_greatest p.id (entry cs p q.0).fits) (up_to_greatest cs ps q.1)

are_greatest : (last : Id) (gs : List Group) → are_groups last gs ≡ true → are_groups greatest gs ≡ true
are_greatest last [] e = unfold are_groups in refl
are_greatest last (g ∷ gs) e =
    let f = first last g gs e in
    joined greatest g gs
    (record {
      is_group_lem = f.is_group_lem;
      up_to_lem = up_to_greatest g.consumers g.pending (rules g f.is_group_lem).entries;
      others = are_greatest last gs f.others;
    })

pub groups_greatest : (last : Id) (gs : List Group) → is_groups last gs ≡ true → is_groups greatest gs ≡ true
groups_greatest last gs e =
    let r = sound last gs e in are_sound greatest gs (record { few = r.few; rising = r.rising; groups = are_greatest last gs r.groups })

-- a group that is found is one of the groups
module _ (last : Id) where
  kept_case : (n : List ℕ) (g h : Group) (gs : List Group) (t : Bool) → First last g gs → pick t (Some g) (find_group n gs) ≡ Some h
      → (find_group n gs ≡ Some h → First last h []) → First last h []
  kept_case n g h gs true f e r =
      let q : g ≡ h = cc in
      subst (λ (x : Group). First last x []) q (record { is_group_lem = f.is_group_lem; up_to_lem = f.up_to_lem; others = unfold are_groups in refl })
  kept_case n g h gs false f e r = r e

  pub found_kept : (n : List ℕ) (gs : List Group) (h : Group) → are_groups last gs ≡ true → find_group n gs ≡ Some h → First last h []
  unfolding find_group
  found_kept n [] h e k = absurd (let z : ◌≡◌ {A = ℕ} 0 1 = cc in omega arith)
  found_kept n (g ∷ gs) h e k =
      let f = first last g gs e in kept_case n g h gs (same n g.name) f k (found_kept n gs h f.others)

-- what becomes of the others, and of the one
module _ (m : List ℕ) where
  skip : (g : Group) (gs hs : List Group) → find_group m gs ≡ find_group m hs → find_group m (g ∷ gs) ≡ find_group m (g ∷ hs)
  unfolding find_group
  skip g gs hs e = ap (pick (same m g.name) (Some g)) e

  pub find_put_other : (g : Group) → same m g.name ≡ false → (gs : List Group) → find_group m (put_group g gs) ≡ find_group m gs
  find_put_other g d [] = ap (find_group m) (put_none g) ∙ find_later m g [] d
  find_put_other g d (h ∷ hs) =
      by_name g.name h.name
      (λ o. ap (find_group m) (put_less g h hs o) ∙ find_later m g (h ∷ hs) d)
      (λ o.
      ap (find_group m) (put_equal g h hs o)
      ∙ find_later m g hs d
      ∙ sym (find_later m h hs (sym (ap (same m) (same_true g.name h.name (equal_same g.name h.name o))) ∙ d)))
      (λ o. ap (find_group m) (put_greater g h hs o) ∙ skip h (put_group g hs) hs (find_put_other g d hs))

  pub find_put : (g : Group) → same m g.name ≡ true → (gs : List Group) → find_group m (put_group g gs) ≡ Some g
  find_put g e [] = ap (find_group m) (put_none g) ∙ find_first m g [] e
  find_put g e (h ∷ hs) =
      by_name g.name h.name
      (λ o. ap (find_group m) (put_less g h hs o) ∙ find_first m g (h ∷ hs) e)
      (λ o. ap (find_group m) (put_equal g h hs o) ∙ find_first m g hs e)
      (λ o.
      ap (find_group m) (put_greater g h hs o)
      ∙ find_later m h (put_group g hs)
      (ap (λ (x : List ℕ). same x h.name) (same_true m g.name e) ∙ after_differs h.name g.name (greater_before g.name h.name o))
      ∙ find_put g e hs)

  without_case : (n : List ℕ) (g : Group) (gs hs : List Group) (t : Bool) → same n g.name ≡ t → same m n ≡ false → find_group m hs ≡ find_group m gs
      → find_group m (pick t gs (g ∷ hs)) ≡ find_group m (g ∷ gs)
  without_case n g gs hs true e d r = sym (find_later m g gs (ap (same m) (sym (same_true n g.name e)) ∙ d))
  without_case n g gs hs false e d r = skip g hs gs r

  pub find_without_other : (n : List ℕ) → same m n ≡ false → (gs : List Group) → find_group m (without_group n gs) ≡ find_group m gs
  unfolding without_group
  find_without_other n d [] = refl
  find_without_other n d (g ∷ gs) = without_case n g gs (without_group n gs) (same n g.name) refl d (find_without_other n d gs)

-- with a later last ID
are_later : (last later : Id) (gs : List Group) → at_most last later ≡ true → are_groups last gs ≡ true → are_groups later gs ≡ true
are_later last later [] h e = unfold are_groups in refl
are_later last later (g ∷ gs) h e =
    let f = first last g gs e in
    joined later g gs (record { is_group_lem = f.is_group_lem; up_to_lem = up_to_later last later g.pending h f.up_to_lem; others = are_later last later gs h f.others })

pub groups_later : (last later : Id) (gs : List Group) → is_groups last gs ≡ true → at_most last later ≡ true → is_groups later gs ≡ true
groups_later last later gs e h =
    let r = sound last gs e in are_sound later gs (record { few = r.few; rising = r.rising; groups = are_later last later gs h r.groups })

-- the group that is found has the name, which is among the names
pub record FoundNamed (n : List ℕ) (gs : List Group) (g : Group) : Type 0 where
  pub name_is : g.name ≡ n
  pub among : is_among n (names_of gs) ≡ true
  pub above : (a : List ℕ) → names_above a (names_of gs) ≡ true → comes_before a n ≡ true

module _ (n : List ℕ) (g : Group) where
  named_case : (h : Group) (hs : List Group) (t : Bool) → same n h.name ≡ t → pick t (Some h) (find_group n hs) ≡ Some g
      → (find_group n hs ≡ Some g → FoundNamed n hs g) → FoundNamed n (h ∷ hs) g
  unfolding names_above
  named_case h hs true e f r =
      let q : h ≡ g = cc in
      let m : n ≡ h.name = same_true n h.name e in
      record {
        name_is = ap (λ (x : Group). x.name) (sym q) ∙ sym m;
        among = among_first n h.name (names_of hs) e;
        above = λ a k. ap (comes_before a) m ∙ (both_true (comes_before a h.name) (names_above h.name (names_of hs)) k).0;
      }
  named_case h hs false e f r =
      let x = r f in
      record {
        name_is = x.name_is;
        among = among_later n h.name (names_of hs) x.among;
        above = λ a k.
            let p = both_true (comes_before a h.name) (names_above h.name (names_of hs)) k in
            before_trans a h.name n p.0 (x.above h.name p.1);
      }

  pub found_named : (gs : List Group) → find_group n gs ≡ Some g → FoundNamed n gs g
  unfolding find_group
  found_named [] e = absurd (let z : ◌≡◌ {A = ℕ} 0 1 = cc in omega arith)
  found_named (h ∷ hs) e = named_case h hs (same n h.name) refl e (found_named hs)

  -- put back as it is, it changes nothing
  put_case : (a : List ℕ) (h : Group) (hs : List Group) (t : Bool) → same n h.name ≡ t → names_above a (names_of (h ∷ hs)) ≡ true
      → pick t (Some h) (find_group n hs) ≡ Some g → (find_group n hs ≡ Some g → put_group g hs ≡ hs) → put_group g (h ∷ hs) ≡ h ∷ hs
  unfolding names_above put_group
  put_case a h hs true e k f r =
      let q : h ≡ g = cc in subst (λ (x : Group). pick (same x.name h.name) (x ∷ hs) (pick (comes_before x.name h.name) (x ∷ (h ∷ hs)) (h ∷ put_group x hs)) ≡ h ∷ hs) q (rw (same_refl h.name))
  put_case a h hs false e k f r =
      let x = found_named hs f in
      let b : comes_before h.name n ≡ true = x.above h.name (both_true (comes_before a h.name) (names_above h.name (names_of hs)) k).1 in
      let o : order_of g.name h.name ≡ Greater = ap (λ (m : List ℕ). order_of m h.name) x.name_is ∙ order_mirror h.name n ∙ ap mirror (before_less h.name n b) in
      put_greater g h hs o ∙ ap (λ (l : List Group). h ∷ l) (r f)

  put_above : (a : List ℕ) (gs : List Group) → names_above a (names_of gs) ≡ true → find_group n gs ≡ Some g → put_group g gs ≡ gs
  unfolding find_group names_above
  put_above a [] k f = absurd (let z : ◌≡◌ {A = ℕ} 0 1 = cc in omega arith)
  put_above a (h ∷ hs) k f =
      put_case a h hs (same n h.name) refl k f (put_above h.name hs (both_true (comes_before a h.name) (names_above h.name (names_of hs)) k).1)

  pub put_found_same : (last : Id) (gs : List Group) → is_groups last gs ≡ true → find_group n gs ≡ Some g → put_group g gs ≡ gs
  put_found_same last gs e f = put_above [] gs (sound last gs e).rising f
