-- Pending entries of 27 bytes, in a region and in a body: what is written is read back, and what is read was so written.
-- Assumes nothing.
use mathlib.Core.Path.{◌≡◌, refl, sym, ap, ap₂, ◌∙◌}
use mathlib.Core.Bool.{true}
use mathlib.Core.List.{List, [], ◌∷◌, ◌++◌, append_assoc}
use Prim.Native.Nat.{ℕ, zero, suc, ◌+◌, ◌*◌, ◌^◌, ◌≤◌, ◌<◌}
use native.Mathlib.Omega.{arith}
use lib.Dec.{leb, ltb}
use lib.ListN.{length, take, drop, get_or, length-append, length-drop}
use lib.Seq.{drop_at, get_or_at, take-add}
use borrow.Author.Tests.{leb-true, le-leb, ltb-true, lt-ltb}
use Rattle.octets.specs.Pick.{both}
use Rattle.octets.specs.Bytes.{Bytes, le, le_value}
use Rattle.octets.specs.Place.{area}
use Rattle.octets.proofs.Laws.{both_true, bytes_area, bytes_drop, length_le, value_le, le_value_lem, value_le_lt, area_left, area_middle, area_front, area_add, area_first, length_area, both_of}
use Rattle.id.specs.declared.Id.{Id}
use Rattle.id.specs.Id.{Fits64, is_id, below, at_most}
use Rattle.id.specs.Bytes.{id_bytes, id_from}
use Rattle.id.proofs.Laws.{length_id_bytes, from_bytes_of, bytes_of_from, from_fits, id_fits, fits_id}
use Rattle.groups.specs.Group.{Pending, most_count, names_above, is_among, is_pending, are_pending, pending_above, pending_up_to}
use Rattle.groups.specs.Bytes.{place_of_name, pending_bytes, all_pending}
use Rattle.groups.specs.Parse.{entry_id, pending_in, is_entry, all_pending_in, are_entries}
use Rattle.groups.proofs.Names.{placed, place_get_d, among_get_d}

-- the rules of an entry
pub record Entry (consumers : List (List ℕ)) (p : Pending) : Type 0 where
  pub fits : Fits64 p.id
  pub among : is_among p.consumer consumers ≡ true
  pub time_fits : p.time < 2 ^ 64
  pub once : 1 ≤ p.count
  pub count_fits : p.count ≤ 65535

module _ (consumers : List (List ℕ)) (p : Pending) where
  pub entry : is_pending consumers p ≡ true → Entry consumers p
  unfolding is_pending
  entry e =
      let q = both_true (both (is_id p.id) (is_among p.consumer consumers)) (both (ltb p.time (2 ^ 64)) (both (leb 1 p.count) (leb p.count most_count))) e in
      let r = both_true (is_id p.id) (is_among p.consumer consumers) q.0 in
      let t = both_true (ltb p.time (2 ^ 64)) (both (leb 1 p.count) (leb p.count most_count)) q.1 in
      let u = both_true (leb 1 p.count) (leb p.count most_count) t.1 in
      record {
        fits = id_fits p.id r.0;
        among = r.1;
        time_fits = ltb-true p.time (2 ^ 64) t.0;
        once = leb-true 1 p.count u.0;
        count_fits = leb-true p.count most_count u.1;
      }

  pub is_pending_lem : Entry consumers p → is_pending consumers p ≡ true
  unfolding is_pending
  is_pending_lem e =
      both_of (both_of (fits_id p.id e.fits) e.among)
      (both_of (lt-ltb p.time (2 ^ 64) e.time_fits) (both_of (le-leb 1 p.count e.once) (le-leb p.count most_count e.count_fits)))

-- the parts of 27 bytes
module _ (i : List ℕ) (k : ℕ) (t c z : List ℕ) (hi : length i ≡ 16) (ht : length t ≡ 8) (hc : length c ≡ 2) where
  abbrev row : List ℕ
  row = i ++ (k ∷ (t ++ c))

  length_row : length row ≡ 27
  length_row = omega (arith, length-append i (k ∷ (t ++ c)), length-append t c)

  row_id : area 0 16 (row ++ z) ≡ i
  row_id = ap (area 0 16) (append_assoc i (k ∷ (t ++ c)) z) ∙ area_left i ((k ∷ (t ++ c)) ++ z) 16 hi

  row_place : get_or (row ++ z) 16 0 ≡ k
  row_place = ap (λ (l : List ℕ). get_or l 16 0) (append_assoc i (k ∷ (t ++ c)) z) ∙ get_or_at i k ((t ++ c) ++ z) 0 16 hi

  row_time : area 17 8 (row ++ z) ≡ t
  row_time =
      let q : row ++ z ≡ (i ++ (k ∷ [])) ++ (t ++ (c ++ z)) = simp append_assoc in
      ap (area 17 8) q ∙ area_middle (i ++ (k ∷ [])) t (c ++ z) 17 8 (omega (arith, length-append i (k ∷ []))) ht

  row_count : area 25 2 (row ++ z) ≡ c
  row_count =
      let q : row ++ z ≡ (i ++ (k ∷ t)) ++ (c ++ z) = simp append_assoc in
      ap (area 25 2) q ∙ area_middle (i ++ (k ∷ t)) c z 25 2 (omega (arith, length-append i (k ∷ t))) hc

-- an entry that was written
module _ (consumers : List (List ℕ)) (p : Pending) (z : List ℕ) where
  time_8 : length (le 8 p.time) ≡ 8
  time_8 = length_le 8 p.time

  count_2 : length (le 2 p.count) ≡ 2
  count_2 = length_le 2 p.count

  k : ℕ
  k = place_of_name p.consumer consumers

  pub length_entry : length (pending_bytes consumers p) ≡ 27
  unfolding pending_bytes k
  length_entry = length_row (id_bytes p.id) k (le 8 p.time) (le 2 p.count) z (length_id_bytes p.id) time_8 count_2

  pub entry_place_lem : get_or (pending_bytes consumers p ++ z) 16 0 ≡ place_of_name p.consumer consumers
  unfolding pending_bytes k
  entry_place_lem = row_place (id_bytes p.id) k (le 8 p.time) (le 2 p.count) z (length_id_bytes p.id) time_8 count_2

  pub entry_count : Entry consumers p → le_value (area 25 2 (pending_bytes consumers p ++ z)) ≡ p.count
  unfolding pending_bytes k
  entry_count e =
      ap le_value (row_count (id_bytes p.id) k (le 8 p.time) (le 2 p.count) z (length_id_bytes p.id) time_8 count_2)
      ∙ value_le 2 p.count (omega (arith, e.count_fits))

  entry_time : Entry consumers p → le_value (area 17 8 (pending_bytes consumers p ++ z)) ≡ p.time
  unfolding pending_bytes k
  entry_time e =
      ap le_value (row_time (id_bytes p.id) k (le 8 p.time) (le 2 p.count) z (length_id_bytes p.id) time_8 count_2)
      ∙ value_le 8 p.time e.time_fits

  pub entry_id_lem : Entry consumers p → entry_id (pending_bytes consumers p ++ z) ≡ p.id
  unfolding pending_bytes k entry_id
  entry_id_lem e =
      ap id_from (row_id (id_bytes p.id) k (le 8 p.time) (le 2 p.count) z (length_id_bytes p.id) time_8 count_2)
      ∙ from_bytes_of p.id e.fits

  pub entry_kept : Entry consumers p → pending_in consumers (pending_bytes consumers p ++ z) ≡ p
  unfolding pending_in
  entry_kept e =
      let a : entry_id (pending_bytes consumers p ++ z) ≡ p.id = entry_id_lem e in
      let b : get_or consumers (get_or (pending_bytes consumers p ++ z) 16 0) [] ≡ p.consumer =
      ap (λ (n : ℕ). get_or consumers n []) entry_place_lem ∙ (placed p.consumer consumers e.among).stands in
      let c = entry_time e in
      let d = entry_count e in
      λ j. record { id = a j; consumer = b j; time = c j; count = d j }

-- a number of w bytes that is read
module _ (s : List ℕ) (bytes : Bytes s) (at w : ℕ) (k : at + w ≤ length s) where
  pub number_read : le w (le_value (area at w s)) ≡ area at w s
  number_read =
      ap (λ (n : ℕ). le n (le_value (area at w s))) (sym (length_area at w s k)) ∙ le_value_lem (area at w s) (bytes_area at w bytes)

  pub number_lt : le_value (area at w s) < 2 ^ (8 * w)
  number_lt = rw (length_area at w s k) at (value_le_lt (area at w s) (bytes_area at w bytes))

-- an entry that is read
module _ (s : List ℕ) (h : 27 ≤ length s) (bytes : Bytes s) where
  split_row : take 27 s ≡ area 0 16 s ++ (get_or s 16 0 ∷ (area 17 8 s ++ area 25 2 s))
  split_row =
      sym (area_front 27 s)
      ∙ area_add 0 16 11 s
      ∙ ap (λ (l : List ℕ). area 0 16 s ++ l) (area_first 16 10 s (omega arith) ∙ ap (λ (l : List ℕ). get_or s 16 0 ∷ l) (area_add 17 8 2 s))

  module _ (consumers : List (List ℕ)) (above : List ℕ) (rising : names_above above consumers ≡ true) (place : get_or s 16 0 < length consumers) where
    pub entry_bytes_lem : take 27 s ≡ pending_bytes consumers (pending_in consumers s)
    unfolding pending_bytes pending_in entry_id
    entry_bytes_lem =
        split_row
        ∙ ap₂ (λ (i l : List ℕ). i ++ l) (sym (bytes_of_from (area 0 16 s) (bytes_area 0 16 bytes) (length_area 0 16 s (omega arith))))
        (ap₂ (λ (k : ℕ) (l : List ℕ). k ∷ l) (sym (place_get_d above consumers (get_or s 16 0) rising place))
        (ap₂ (λ (t c : List ℕ). t ++ c) (sym (number_read s bytes 17 8 (omega arith))) (sym (number_read s bytes 25 2 (omega arith)))))

    pub entry_read : 1 ≤ le_value (area 25 2 s) → Entry consumers (pending_in consumers s)
    unfolding pending_in entry_id
    entry_read once =
        record {
          fits = from_fits (area 0 16 s) (bytes_area 0 16 bytes) (length_area 0 16 s (omega arith));
          among = among_get_d consumers (get_or s 16 0) place;
          time_fits = number_lt s bytes 17 8 (omega arith);
          once = once;
          count_fits = let q : le_value (area 25 2 s) < 2 ^ (8 * 2) = number_lt s bytes 25 2 (omega arith) in omega arith;
        }

pub length_pending_in : (n : ℕ) (consumers : List (List ℕ)) (s : List ℕ) → length (all_pending_in n consumers s) ≡ n
unfolding all_pending_in
length_pending_in zero consumers s = refl
length_pending_in (suc n) consumers s = ap suc (length_pending_in n consumers (drop 27 s))

pub length_entries : (consumers : List (List ℕ)) (ps : List Pending) → length (all_pending consumers ps) ≡ length ps * 27
unfolding all_pending
length_entries consumers [] = refl
length_entries consumers (p ∷ ps) =
    omega (arith, length-append (pending_bytes consumers p) (all_pending consumers ps), length_entry consumers p [], length_entries consumers ps)

-- entries that were written
pub record EntriesKept (consumers : List (List ℕ)) (above most : Id) (ps : List Pending) (s : List ℕ) : Type 0 where
  pub pending : all_pending_in (length ps) consumers s ≡ ps
  pub entries : are_entries (length consumers) above most (length ps) s ≡ true

pub entries_kept : (consumers : List (List ℕ)) (above most : Id) (ps : List Pending) (t : List ℕ)
    → are_pending consumers ps ≡ true → pending_above above ps ≡ true → pending_up_to most ps ≡ true
    → EntriesKept consumers above most ps (all_pending consumers ps ++ t)
unfolding all_pending all_pending_in are_entries are_pending pending_above pending_up_to is_entry
entries_kept consumers above most [] t e r m = record { pending = refl; entries = refl }
entries_kept consumers above most (p ∷ ps) t e r m =
    let x = both_true (is_pending consumers p) (are_pending consumers ps) e in
    let y = both_true (below above p.id) (pending_above p.id ps) r in
    let w = both_true (at_most p.id most) (pending_up_to most ps) m in
    let u : List ℕ = all_pending consumers ps ++ t in
    let s : List ℕ = (pending_bytes consumers p ++ all_pending consumers ps) ++ t in
    let a : s ≡ pending_bytes consumers p ++ u = append_assoc (pending_bytes consumers p) (all_pending consumers ps) t in
    let d : drop 27 s ≡ u = ap (drop 27) a ∙ drop_at (pending_bytes consumers p) u 27 (length_entry consumers p []) in
    let f = entry consumers p x.0 in
    let i : entry_id s ≡ p.id = ap entry_id a ∙ entry_id_lem consumers p u f in
    let k : get_or s 16 0 ≡ place_of_name p.consumer consumers = ap (λ (l : List ℕ). get_or l 16 0) a ∙ entry_place_lem consumers p u in
    let c : le_value (area 25 2 s) ≡ p.count = ap (λ (l : List ℕ). le_value (area 25 2 l)) a ∙ entry_count consumers p u f in
    let g = entries_kept consumers p.id most ps t x.1 y.1 w.1 in
    record {
      pending = ap₂ (λ (q : Pending) (l : List Pending). q ∷ l) (ap (pending_in consumers) a ∙ entry_kept consumers p u f)
          (ap (all_pending_in (length ps) consumers) d ∙ g.pending);
      entries =
          both_of
          (both_of
          (both_of (lt-ltb (get_or s 16 0) (length consumers) (omega (arith, (placed p.consumer consumers f.among).within))) (le-leb 1 (le_value (area 25 2 s)) (omega (arith, f.once))))
          (both_of (ap (below above) i ∙ y.0) (ap (λ (j : Id). at_most j most) i ∙ w.0)))
          (ap₂ (λ (j : Id) (l : List ℕ). are_entries (length consumers) j most (length ps) l) i d ∙ g.entries);
    }

-- entries that are read
pub record EntriesRead (consumers : List (List ℕ)) (above most : Id) (n : ℕ) (s : List ℕ) : Type 0 where
  pub bytes : take (n * 27) s ≡ all_pending consumers (all_pending_in n consumers s)
  pub entries : are_pending consumers (all_pending_in n consumers s) ≡ true
  pub rising : pending_above above (all_pending_in n consumers s) ≡ true
  pub up_to_lem : pending_up_to most (all_pending_in n consumers s) ≡ true

-- the tests of an entry
pub record EntryTested (consumers : ℕ) (above most : Id) (s : List ℕ) : Type 0 where
  pub place : get_or s 16 0 < consumers
  pub once : 1 ≤ le_value (area 25 2 s)
  pub higher : below above (entry_id s) ≡ true
  pub up_to_lem : at_most (entry_id s) most ≡ true

pub entry_tested : (consumers : ℕ) (above most : Id) (s : List ℕ) → is_entry consumers above most s ≡ true → EntryTested consumers above most s
unfolding is_entry
entry_tested consumers above most s e =
    let p = both_true (both (ltb (get_or s 16 0) consumers) (leb 1 (le_value (area 25 2 s)))) (both (below above (entry_id s)) (at_most (entry_id s) most)) e in
    let q = both_true (ltb (get_or s 16 0) consumers) (leb 1 (le_value (area 25 2 s))) p.0 in
    let r = both_true (below above (entry_id s)) (at_most (entry_id s) most) p.1 in
    record { place = ltb-true (get_or s 16 0) consumers q.0; once = leb-true 1 (le_value (area 25 2 s)) q.1; higher = r.0; up_to_lem = r.1 }

id_in_lem : (consumers : List (List ℕ)) (s : List ℕ) → (pending_in consumers s).id ≡ entry_id s
unfolding pending_in
id_in_lem consumers s = refl

module _ (consumers : List (List ℕ)) (low : List ℕ) (distinct : names_above low consumers ≡ true) (most : Id) where
  pub entries_read : (above : Id) (n : ℕ) (s : List ℕ) → are_entries (length consumers) above most n s ≡ true → n * 27 ≤ length s → Bytes s
      → EntriesRead consumers above most n s
  unfolding all_pending all_pending_in are_entries are_pending pending_above pending_up_to
  entries_read above zero s e h b = record { bytes = refl; entries = refl; rising = refl; up_to_lem = refl }
  entries_read above (suc n) s e h b =
      let p = both_true (is_entry (length consumers) above most s) (are_entries (length consumers) (entry_id s) most n (drop 27 s)) e in
      let t = entry_tested (length consumers) above most s p.0 in
      let l : 27 ≤ length s = omega arith in
      let k = entries_read (entry_id s) n (drop 27 s) p.1 (omega (arith, length-drop 27 s)) (bytes_drop 27 b) in
      let j : suc n * 27 ≡ 27 + n * 27 = omega arith in
      let i : (pending_in consumers s).id ≡ entry_id s = id_in_lem consumers s in
      record {
        bytes = ap (λ (m : ℕ). take m s) j
            ∙ take-add 27 (n * 27) s
            ∙ ap₂ (λ (x y : List ℕ). x ++ y) (entry_bytes_lem s l b consumers low distinct t.place) k.bytes;
        entries = both_of (is_pending_lem consumers (pending_in consumers s) (entry_read s l b consumers low distinct t.place t.once)) k.entries;
        rising = rw i (both_of t.higher k.rising);
        up_to_lem = rw i (both_of t.up_to_lem k.up_to_lem);
      }
