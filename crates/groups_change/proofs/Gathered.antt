-- The rows of the other consumers' entries, gathered in one pass. Assumes nothing.
use mathlib.Core.Path.{◌≡◌, refl, sym, ap, ap₂, ◌∙◌}
use mathlib.Core.Bool.{Bool, true, false}
use mathlib.Core.List.{List, [], ◌∷◌, ◌++◌, append_assoc, append-nil}
use Prim.Native.Nat.{ℕ, zero, suc, ◌+◌, ◌-◌, ◌*◌, ◌≤◌, ◌<◌}
use native.Mathlib.Omega.{arith}
use lib.Dec.{eqb}
use lib.ListN.{length, get_or, take, drop, length-append}
use lib.Seq.{take_at, drop_at, drop-drop, get_or-drop}
use borrow.Author.Tests.{eq-eqb, ne_eqb}
use Rattle.octets.specs.Pick.{pick}
use Rattle.octets.specs.Bytes.{Bytes, le, le_value, zeros}
use Rattle.octets.specs.Place.{area, put}
use Rattle.octets.specs.Compare.{same}
use Rattle.octets.proofs.Laws.{both_true, part_area, put_none, put_append, drop_put, length_put, area_add, length_area}
use Rattle.groups.specs.Group.{Pending, Group, names_above, is_pending, are_pending}
use Rattle.groups.specs.Bytes.{place_of_name, pending_bytes, all_pending, region_bytes}
use Rattle.groups.specs.Parse.{group_in}
use Rattle.groups.specs.Step.{pending_of, pending_of_others}
use Rattle.groups.specs.Answer.{SoundRegion}
use Rattle.groups.proofs.Laws.{Rules, number_read, entry, placed, entry_place_lem, length_entry, length_entries, same_place, count_others, region_entries, sound_tested}
use Rattle.groups_change.specs.Places.{row_kept, rows_of_others}
use Rattle.groups_change.specs.Change.{with_pending}
use Rattle.groups_change.proofs.Shapes.{shape, region_shape, sound_rules, sound_short, sound_shape, shape_number, shape_fewer}

-- one row
module _ (k at : ℕ) (s : List ℕ) (place : ℕ) (e : place ≡ get_or s (at + 16) 0) where
  pub row_gone : place ≡ k → row_kept k (drop at s) ≡ []
  unfolding row_kept
  row_gone h = rw (get_or-drop at s 16 0, eq-eqb (get_or s (at + 16) 0) k (sym e ∙ h))

  pub row_stays : (place ≡ k → ⊥) → row_kept k (drop at s) ≡ area at 27 s
  unfolding row_kept
  row_stays h = rw (get_or-drop at s 16 0, ne_eqb (get_or s (at + 16) 0) k (λ q. h (e ∙ q))) (part_area at 27 s)

-- a row moved by words
module _ (s : List ℕ) (b : Bytes s) (at to : ℕ) (h : at + 27 ≤ length s) (k : to ≤ at) where
  row_split : area at 27 s ≡ ((area at 8 s ++ area (at + 8) 8 s) ++ area (at + 16) 8 s) ++ area (at + 24) 3 s
  row_split = area_add at 24 3 s ∙ ap (λ (l : List ℕ). l ++ area (at + 24) 3 s) (area_add at 16 8 s ∙ ap (λ (l : List ℕ). l ++ area (at + 16) 8 s) (area_add at 8 8 s))

  pub row_moved : put (put (put (put s to (le 8 (le_value (area at 8 s)))) (to + 8) (le 8 (le_value (area (at + 8) 8 s)))) (to + 16) (le 8 (le_value (area (at + 16) 8 s)))) (to + 24) (le 3 (le_value (area (at + 24) 3 s)))
      ≡ put s to (area at 27 s)
  row_moved =
      let x : List ℕ = area at 8 s in
      let y : List ℕ = area (at + 8) 8 s in
      let z : List ℕ = area (at + 16) 8 s in
      let w : List ℕ = area (at + 24) 3 s in
      let ex = number_read s b at 8 (omega arith) in
      let ey = number_read s b (at + 8) 8 (omega arith) in
      let ez = number_read s b (at + 16) 8 (omega arith) in
      let ew = number_read s b (at + 24) 3 (omega arith) in
      let lx : to + 8 ≡ to + length x = omega (arith, length_area at 8 s (omega arith)) in
      let ly : to + 16 ≡ to + length (x ++ y) = omega (arith, length-append x y, length_area at 8 s (omega arith), length_area (at + 8) 8 s (omega arith)) in
      let lz : to + 24 ≡ to + length ((x ++ y) ++ z) =
      omega (arith, length-append (x ++ y) z, length-append x y, length_area at 8 s (omega arith), length_area (at + 8) 8 s (omega arith), length_area (at + 16) 8 s (omega arith)) in
      let low : to ≤ length s = omega arith in
      (λ i. put (put (put (put s to (ex i)) (lx i) (ey i)) (ly i) (ez i)) (lz i) (ew i))
      ∙ ap (λ (l : List ℕ). put (put l (to + length (x ++ y)) z) (to + length ((x ++ y) ++ z)) w) (put_append s to x y low)
      ∙ ap (λ (l : List ℕ). put l (to + length ((x ++ y) ++ z)) w) (put_append s to (x ++ y) z low)
      ∙ put_append s to ((x ++ y) ++ z) w low
      ∙ ap (put s to) (sym row_split)

-- so many entries' rows, of which the first is kept or not
rows_step : (k left at : ℕ) (s : List ℕ) → 0 < left → rows_of_others k left (drop at s) ≡ row_kept k (drop at s) ++ rows_of_others k (left - 1) (drop (at + 27) s)
unfolding rows_of_others
rows_step k zero at s h = absurd (omega arith)
rows_step k (suc n) at s h =
    let e : suc n - 1 ≡ n = omega arith in rw e (ap (λ (l : List ℕ). row_kept k (drop at s) ++ rows_of_others k n l) (drop-drop 27 at s))

-- the walk: some rows are done and stand at the front, the others are as they were
pub record Gathering (s₀ : List ℕ) (k n : ℕ) (s : List ℕ) (at left kept : ℕ) : Type 0 where
  pub done : List ℕ
  pub size : length done ≡ kept * 27
  pub laid : s ≡ put s₀ 308 done
  pub rest : done ++ rows_of_others k left (drop at s₀) ≡ rows_of_others k n (drop 308 s₀)
  pub place : at + left * 27 ≡ 308 + n * 27
  pub front : 308 + kept * 27 ≤ at

pub gathering_starts : (s : List ℕ) (k n : ℕ) → Gathering s k n s 308 n 0
gathering_starts s k n = record { done = []; size = refl; laid = sym (put_none s 308); rest = refl; place = refl; front = omega arith }

module _ (s₀ : List ℕ) (k n : ℕ) (s : List ℕ) (at left kept : ℕ) (w : Gathering s₀ k n s at left kept) (room : 308 + n * 27 ≤ length s₀) where
  pub gathered_length : length s ≡ length s₀
  gathered_length = ap length w.laid ∙ length_put s₀ 308 w.done (omega (arith, w.size, w.place, w.front))

  pub gathering_turns : 0 < left → (one : ℕ) (s' : List ℕ) → one * 27 ≡ length (row_kept k (drop at s)) → one ≤ 1
      → s' ≡ put s (308 + kept * 27) (row_kept k (drop at s)) → Gathering s₀ k n s' (at + 27) (left - 1) (kept + one)
  gathering_turns h one s' size_one few q =
      let d : drop at s ≡ drop at s₀ = ap (drop at) w.laid ∙ drop_put s₀ 308 w.done at (omega arith) (omega (arith, w.size, w.front)) in
      let row : List ℕ = row_kept k (drop at s₀) in
      let same_row : row_kept k (drop at s) ≡ row = ap (row_kept k) d in
      let to : 308 + kept * 27 ≡ 308 + length w.done = omega (arith, w.size) in
      record {
        done = w.done ++ row;
        size = length-append w.done row ∙ omega (arith, w.size, ap length same_row);
        laid = q
            ∙ ap₂ (λ (l : List ℕ) (m : ℕ). put l m (row_kept k (drop at s))) w.laid to
            ∙ ap (put (put s₀ 308 w.done) (308 + length w.done)) same_row
            ∙ put_append s₀ 308 w.done row (omega arith);
        rest = append_assoc w.done row (rows_of_others k (left - 1) (drop (at + 27) s₀)) ∙ ap (λ (l : List ℕ). w.done ++ l) (sym (rows_step k left at s₀ h)) ∙ w.rest;
        place = omega (arith, w.place);
        front = omega (arith, w.front);
      }

  pub gathering_ends : left ≤ 0 → w.done ≡ rows_of_others k n (drop 308 s₀)
  gathering_ends h = sym (append-nil w.done) ∙ ap (λ (l : List ℕ). w.done ++ l) (sym (none left h)) ∙ w.rest
    where
      none : (m : ℕ) → m ≤ 0 → rows_of_others k m (drop at s₀) ≡ []
      none zero z = unfold rows_of_others in refl
      none (suc m) z = absurd (omega arith)

-- the rows of a consumer's entries are those whose place is the consumer's
module _ (cs : List (List ℕ)) (rising : names_above [] cs ≡ true) (k : ℕ) (low : k < length cs) where
  abbrev c : List ℕ
  c = get_or cs k []

  entry_tested : (p : Pending) (u : List ℕ) → is_pending cs p ≡ true → eqb (get_or (pending_bytes cs p ++ u) 16 0) k ≡ same c p.consumer
  entry_tested p u e =
      ap (λ (x : ℕ). eqb x k) (entry_place_lem cs p u)
      ∙ sym (same_place cs rising k (place_of_name p.consumer cs) low)
      ∙ ap (same c) (placed p.consumer cs (entry cs p e).among).stands

  rows_case : (p : Pending) (ps : List Pending) (t : Bool) → pick t [] (pending_bytes cs p) ++ all_pending cs ps ≡ all_pending cs (pick t ps (p ∷ ps))
  unfolding all_pending
  rows_case p ps true = refl
  rows_case p ps false = refl

  pub rows_are : (ps : List Pending) (t : List ℕ) → are_pending cs ps ≡ true → rows_of_others k (length ps) (all_pending cs ps ++ t) ≡ all_pending cs (pending_of_others c ps)
  unfolding rows_of_others all_pending pending_of_others are_pending row_kept
  rows_are [] t e = refl
  rows_are (p ∷ ps) t e =
      let x = both_true (is_pending cs p) (are_pending cs ps) e in
      let u : List ℕ = all_pending cs ps ++ t in
      let a : (pending_bytes cs p ++ all_pending cs ps) ++ t ≡ pending_bytes cs p ++ u = append_assoc (pending_bytes cs p) (all_pending cs ps) t in
      ap (λ (l : List ℕ). pick (eqb (get_or l 16 0) k) [] (take 27 l) ++ rows_of_others k (length ps) (drop 27 l)) a
      ∙ ap₂ (λ (b : Bool) (l : List ℕ). pick b [] l ++ rows_of_others k (length ps) (drop 27 (pending_bytes cs p ++ u))) (entry_tested p u x.0) (take_at (pending_bytes cs p) u 27 (length_entry cs p []))
      ∙ ap (λ (l : List ℕ). pick (same c p.consumer) [] (pending_bytes cs p) ++ l) (ap (rows_of_others k (length ps)) (drop_at (pending_bytes cs p) u 27 (length_entry cs p [])) ∙ rows_are ps t x.1)
      ∙ rows_case p (pending_of_others c ps) (same c p.consumer)

-- a sound region after the walk, the zeros and the number
module _ (s : List ℕ) (h : SoundRegion s) (k : ℕ) (low : k < length (group_in s).consumers) (n : ℕ) (e : n ≡ length (group_in s).pending) where
  abbrev g : Group
  g = group_in s

  abbrev cs : List (List ℕ)
  cs = (group_in s).consumers

  abbrev ps : List Pending
  ps = (group_in s).pending

  abbrev qs : List Pending
  qs = pending_of_others (get_or (group_in s).consumers k []) (group_in s).pending

  r : Rules (group_in s)
  r = sound_rules s h

  rows_left_lem : rows_of_others k n (drop 308 s) ≡ all_pending cs qs
  rows_left_lem =
      ap₂ (λ (m : ℕ) (l : List ℕ). rows_of_others k m (drop 308 l)) e h.laid
      ∙ ap (rows_of_others k (length ps)) (region_entries g r)
      ∙ rows_are cs r.rising k low ps (zeros (6912 - length (all_pending cs ps))) r.entries

  module _ (m : ℕ) (q : m * 27 ≡ length (rows_of_others k n (drop 308 s))) where
    pub count_left : m ≡ length qs
    count_left = omega (arith, ap length rows_left_lem, length_entries cs qs)

    pub count_gone : n - m ≡ length (pending_of (get_or cs k []) ps)
    count_gone = omega (arith, count_left, count_others (get_or cs k []) ps)

    pub region_left : put (put (put s 308 (rows_of_others k n (drop 308 s))) (308 + m * 27) (zeros ((n - m) * 27))) 306 (le 2 m) ≡ region_bytes (with_pending qs g)
    region_left =
        let rows : List ℕ = rows_of_others k n (drop 308 s) in
        let z : List ℕ = zeros ((n - m) * 27) in
        let at : 308 + m * 27 ≡ 308 + length rows = omega arith in
        let l = (sound_tested s h).size in
        let t : length qs * 27 + (n - m) * 27 ≡ length ps * 27 = omega (arith, count_left, count_others (get_or cs k []) ps) in
        ap (λ (j : ℕ). put (put (put s 308 rows) j z) 306 (le 2 m)) at
        ∙ ap (λ (x : List ℕ). put x 306 (le 2 m)) (put_append s 308 rows z (omega arith))
        ∙ ap₂ (λ (x y : List ℕ). put (put x 308 (y ++ z)) 306 (le 2 m)) (sound_shape s h) rows_left_lem
        ∙ ap (λ (x : List ℕ). put x 306 (le 2 m)) (shape_fewer g.name g.delivered (length cs) (sound_short s h) cs r.names r.few (length ps) cs ps qs ((n - m) * 27) t r.room)
        ∙ ap (λ (j : ℕ). put (shape g.name g.delivered (length cs) cs (length ps) cs qs) 306 (le 2 j)) count_left
        ∙ shape_number g.name g.delivered (length cs) (sound_short s h) cs r.names r.few (length ps) (length qs) cs qs
        ∙ sym (region_shape (with_pending qs g))
