-- What each test of a region answers, and what a loop has left to do a turn later. Assumes nothing.
use mathlib.Core.Path.{◌≡◌, refl, sym, ap, ap₂, ◌∙◌}
use mathlib.Core.Bool.{true, false}
use mathlib.Core.List.{List, [], ◌∷◌}
use Prim.Native.Nat.{ℕ, zero, suc, ◌+◌, ◌-◌, ◌≤◌, ◌<◌}
use native.Mathlib.Nat.{add-zero}
use native.Mathlib.Omega.{arith}
use lib.Dec.{leb, ltb}
use lib.ListN.{take, drop, get_or}
use lib.Seq.{drop-drop, get_or-drop}
use borrow.Author.Tests.{le-leb, lt-leb, lt-ltb, le-ltb}
use Rattle.octets.specs.Pick.{both}
use Rattle.octets.specs.Bytes.{le_value}
use Rattle.octets.specs.Place.{area}
use Rattle.octets.specs.Compare.{all_zero, comes_before}
use Rattle.octets.proofs.Laws.{area_drop}
use Rattle.id.specs.declared.Id.{Id}
use Rattle.id.specs.Id.{below, at_most}
use Rattle.id.specs.Bytes.{id_from}
use Rattle.groups.specs.Parse.{name_in, is_field, are_fields, entry_id, pending_in, is_entry, all_pending_in, are_entries}

pub first_byte_lem : (at : ℕ) (s : List ℕ) → get_or (drop at s) 0 0 ≡ get_or s at 0
first_byte_lem at s = get_or-drop at s 0 0 ∙ ap (λ (k : ℕ). get_or s k 0) (add-zero at)

pub name_at : (at n : ℕ) (s : List ℕ) → n ≡ get_or s at 0 → name_in (drop at s) ≡ area (at + 1) n s
unfolding name_in
name_at at n s e = ap (λ (k : ℕ). area 1 k (drop at s)) (first_byte_lem at s ∙ sym e) ∙ area_drop at 1 n s

pub id_at_lem : (at : ℕ) (s : List ℕ) → entry_id (drop at s) ≡ id_from (area at 16 s)
unfolding entry_id
id_at_lem at s = ap id_from (area_drop at 0 16 s ∙ ap (λ (k : ℕ). area k 16 s) (add-zero at))

-- a field
module _ (at n : ℕ) (s : List ℕ) (e : n ≡ get_or s at 0) where
  opened : is_field (drop at s) ≡ both (both (leb 1 n) (leb n 16)) (all_zero (area (1 + n) (16 - n) (drop at s)))
  unfolding is_field
  opened = rw (first_byte_lem at s, ← e)

  pub field_empty : n < 1 → is_field (drop at s) ≡ false
  field_empty h = opened ∙ rw (lt-leb 1 n h)

  pub field_long : 1 ≤ n → 16 < n → is_field (drop at s) ≡ false
  field_long h k = opened ∙ rw (le-leb 1 n h, lt-leb n 16 k)

  pub field_rest : 1 ≤ n → n ≤ 16 → is_field (drop at s) ≡ all_zero (drop 0 (take (at + 17 - (at + 1 + n)) (drop (at + 1 + n) s)))
  unfolding area
  field_rest h k =
      let i : 16 - n ≡ at + 17 - (at + 1 + n) = omega arith in
      let j : at + (1 + n) ≡ at + 1 + n = omega arith in
      opened
      ∙ rw (le-leb 1 n h, le-leb n 16 k) (ap all_zero (ap₂ (λ (m : ℕ) (l : List ℕ). take m l) i (drop-drop (1 + n) at s ∙ ap (λ (m : ℕ). drop m s) j)))

-- an entry
module _ (at consumers : ℕ) (above most : Id) (s : List ℕ) where
  entry_opened : is_entry consumers above most (drop at s)
      ≡ both (both (ltb (get_or s (at + 16) 0) consumers) (leb 1 (le_value (area (at + 25) 2 s))))
      (both (below above (id_from (area at 16 s))) (at_most (id_from (area at 16 s)) most))
  unfolding is_entry
  entry_opened = rw (get_or-drop at s 16 0, area_drop at 25 2 s, id_at_lem at s)

  pub entry_lost : consumers ≤ get_or s (at + 16) 0 → is_entry consumers above most (drop at s) ≡ false
  entry_lost h = entry_opened ∙ rw (le-ltb (get_or s (at + 16) 0) consumers h)

  module _ (h : get_or s (at + 16) 0 < consumers) where
    pub entry_never : le_value (area (at + 25) 2 s) < 1 → is_entry consumers above most (drop at s) ≡ false
    entry_never k = entry_opened ∙ rw (lt-ltb (get_or s (at + 16) 0) consumers h, lt-leb 1 (le_value (area (at + 25) 2 s)) k)

    module _ (k : 1 ≤ le_value (area (at + 25) 2 s)) where
      pub entry_low : below above (id_from (area at 16 s)) ≡ false → is_entry consumers above most (drop at s) ≡ false
      entry_low e = entry_opened ∙ rw (lt-ltb (get_or s (at + 16) 0) consumers h, le-leb 1 (le_value (area (at + 25) 2 s)) k, e)

      pub entry_last : below above (id_from (area at 16 s)) ≡ true → is_entry consumers above most (drop at s) ≡ at_most (id_from (area at 16 s)) most
      entry_last e = entry_opened ∙ rw (lt-ltb (get_or s (at + 16) 0) consumers h, le-leb 1 (le_value (area (at + 25) 2 s)) k, e)

-- fields that are left
fields_step : (above : List ℕ) (left : ℕ) (s : List ℕ) → 0 < left
    → are_fields above left s ≡ both (both (is_field s) (comes_before above (name_in s))) (are_fields (name_in s) (left - 1) (drop 17 s))
unfolding are_fields
fields_step above zero s h = absurd (omega arith)
fields_step above (suc k) s h =
    let e : suc k - 1 ≡ k = omega arith in rw e

module _ (above : List ℕ) (left i : ℕ) (s : List ℕ) (h : 0 < left) where
  pub fields_bad : is_field (drop i s) ≡ false → are_fields above left (drop i s) ≡ false
  fields_bad e = fields_step above left (drop i s) h ∙ rw e

  pub fields_low : is_field (drop i s) ≡ true → comes_before above (name_in (drop i s)) ≡ false → are_fields above left (drop i s) ≡ false
  fields_low e k = fields_step above left (drop i s) h ∙ rw (e, k)

  pub fields_next : (n : List ℕ) → name_in (drop i s) ≡ n → is_field (drop i s) ≡ true → comes_before above n ≡ true
      → are_fields above left (drop i s) ≡ are_fields n (left - 1) (drop (i + 17) s)
  fields_next n q e k = fields_step above left (drop i s) h ∙ rw (q, e, k, drop-drop 17 i s)

pub fields_done : (above : List ℕ) (left : ℕ) (s : List ℕ) → left ≤ 0 → are_fields above left s ≡ true
unfolding are_fields
fields_done above zero s h = refl
fields_done above (suc k) s h = absurd (omega arith)

-- entries that are left
entries_step : (consumers : ℕ) (above most : Id) (left : ℕ) (s : List ℕ) → 0 < left
    → are_entries consumers above most left s ≡ both (is_entry consumers above most s) (are_entries consumers (entry_id s) most (left - 1) (drop 27 s))
unfolding are_entries
entries_step consumers above most zero s h = absurd (omega arith)
entries_step consumers above most (suc k) s h =
    let e : suc k - 1 ≡ k = omega arith in rw e

module _ (consumers : ℕ) (above most : Id) (left i : ℕ) (s : List ℕ) where
  pub entries_bad : 0 < left → is_entry consumers above most (drop i s) ≡ false → are_entries consumers above most left (drop i s) ≡ false
  entries_bad h e = entries_step consumers above most left (drop i s) h ∙ rw e

  pub entries_next : 0 < left → is_entry consumers above most (drop i s) ≡ true
      → are_entries consumers above most left (drop i s) ≡ are_entries consumers (id_from (area i 16 s)) most (left - 1) (drop (i + 27) s)
  entries_next h e = entries_step consumers above most left (drop i s) h ∙ rw (e, id_at_lem i s, drop-drop 27 i s)

pub entries_done : (consumers : ℕ) (above most : Id) (left : ℕ) (s : List ℕ) → left ≤ 0 → are_entries consumers above most left s ≡ true
unfolding are_entries
entries_done consumers above most zero s h = refl
entries_done consumers above most (suc k) s h = absurd (omega arith)

-- the entries from a place on
pub pending_step : (left : ℕ) (cs : List (List ℕ)) (i : ℕ) (s : List ℕ) → 0 < left
    → all_pending_in left cs (drop i s) ≡ pending_in cs (drop i s) ∷ all_pending_in (left - 1) cs (drop (i + 27) s)
unfolding all_pending_in
pending_step zero cs i s h = absurd (omega arith)
pending_step (suc k) cs i s h =
    let e : suc k - 1 ≡ k = omega arith in
    rw e (ap (λ (l : List ℕ). pending_in cs (drop i s) ∷ all_pending_in k cs l) (drop-drop 27 i s))

pub pending_done : (left : ℕ) (cs : List (List ℕ)) (s : List ℕ) → left ≤ 0 → all_pending_in left cs s ≡ []
unfolding all_pending_in
pending_done zero cs s h = refl
pending_done (suc k) cs s h = absurd (omega arith)

pub id_of_lem : (cs : List (List ℕ)) (i : ℕ) (s : List ℕ) → (pending_in cs (drop i s)).id ≡ id_from (area i 16 s)
unfolding pending_in
id_of_lem cs i s = id_at_lem i s
