-- The rows of a file that was read: the r-th part is the one whose row is the r-th, and it lies inside the file. Assumes nothing.
use mathlib.Core.Path.{◌≡◌, refl, sym, ap, ap₂, ◌∙◌, subst}
use mathlib.Core.List.{List, [], ◌∷◌}
use Rattle.std.proofs.Common.{Some}
use Prim.Native.Nat.{ℕ, zero, suc, ◌+◌, ◌*◌, ◌≤◌, ◌<◌}
use native.Mathlib.Omega.{arith}
use lib.Dec.{leb, eqb}
use lib.ListN.{length, drop, get_or}
use borrow.Author.Tests.{leb-true, eqb-true}
use Rattle.octets.specs.Pick.{both}
use Rattle.octets.specs.Bytes.{le_value}
use Rattle.octets.specs.Place.{area}
use Rattle.octets.proofs.Laws.{needed, answered, some_is}
use Rattle.snapshot.specs.Bytes.{Part, part}
use Rattle.snapshot.specs.Judge.{rows_left, read_file, part_at}

-- a row at a place, and its body
pub record RowAt (f : List ℕ) (at r : ℕ) (ps : List Part) : Type 0 where
  pub inside : le_value (area (at + 1) 4 f) + le_value (area (at + 5) 4 f) ≤ length f
  pub first : drop r ps ≡ part_at f at ∷ drop (r + 1) ps

-- a row's place with nothing before it, and one further on
row_here : (at offset s : ℕ) (f : List ℕ) (ps qs : List Part) → le_value (area (at + 1) 4 f) ≡ offset → le_value (area (at + 5) 4 f) ≡ s → offset + s ≤ length f
    → part (get_or f at 0) (area offset s f) ∷ qs ≡ ps → RowAt f (at + 9 * 0) 0 ps
unfolding part_at
row_here at offset s f ps qs o z h e =
    subst (λ (k : ℕ). RowAt f k 0 ps) (let q : at ≡ at + 9 * 0 = omega arith in q)
    (record {
      inside = omega (arith, o, z);
      first =
          sym e ∙ ap₂ (λ (a b : ℕ). part (get_or f at 0) (area a b f) ∷ qs) (sym o) (sym z)
          ∙ ap (λ (x : List Part). part (get_or f at 0) (area (le_value (area (at + 1) 4 f)) (le_value (area (at + 5) 4 f)) f) ∷ drop 1 x) e;
    })

row_later : (at r : ℕ) (f : List ℕ) (p : Part) (ps qs : List Part) → p ∷ qs ≡ ps → RowAt f (at + 9 + 9 * r) r qs → RowAt f (at + 9 * suc r) (suc r) ps
row_later at r f p ps qs e a =
    subst (λ (k : ℕ). RowAt f k (suc r) ps) (let q : at + 9 + 9 * r ≡ at + 9 * suc r = omega arith in q)
    (record {
      inside = a.inside;
      first =
          ap (drop (suc r)) (sym e) ∙ a.first
          ∙ ap (λ (k : ℕ). part_at f (at + 9 + 9 * r) ∷ drop k (p ∷ qs)) (let q : suc (r + 1) ≡ suc r + 1 = omega arith in q)
          ∙ ap (λ (x : List Part). part_at f (at + 9 + 9 * r) ∷ drop (suc r + 1) x) e;
    })

rows_in : (n at offset r : ℕ) (f : List ℕ) (ps : List Part) → rows_left n at offset f ≡ Some ps → r < n → RowAt f (at + 9 * r) r ps
unfolding rows_left
rows_in zero at offset r f ps e h = absurd (omega arith)
rows_in (suc n) at offset r f ps e h =
    let s : ℕ = le_value (area (at + 5) 4 f) in
    needed (eqb (le_value (area (at + 1) 4 f)) offset) _ e λ t k.
    needed (leb (offset + s) (length f)) _ k λ u k2.
    answered (rows_left n (at + 9) (offset + s) f) _ k2 λ qs w k3.
    by r h qs (eqb-true (le_value (area (at + 1) 4 f)) offset t) (leb-true (offset + s) (length f) u) (some_is k3) (λ i l. rows_in n (at + 9) (offset + s) i f qs w l)
  where
    by : (r : ℕ) → r < suc n → (qs : List Part) → le_value (area (at + 1) 4 f) ≡ offset → offset + le_value (area (at + 5) 4 f) ≤ length f
        → part (get_or f at 0) (area offset (le_value (area (at + 5) 4 f)) f) ∷ qs ≡ ps → ((i : ℕ) → i < n → RowAt f (at + 9 + 9 * i) i qs) → RowAt f (at + 9 * r) r ps
    by zero h qs o l e k = row_here at offset (le_value (area (at + 5) 4 f)) f ps qs o refl l e
    by (suc r) h qs o l e k = row_later at r f (part (get_or f at 0) (area offset (le_value (area (at + 5) 4 f)) f)) ps qs e (k r (omega arith))

rows_count : (n at offset : ℕ) (f : List ℕ) (ps : List Part) → rows_left n at offset f ≡ Some ps → length ps ≡ n
unfolding rows_left
rows_count zero at offset f ps e = needed (eqb offset (length f)) (Some []) e λ t k. ap length (sym (some_is k))
rows_count (suc n) at offset f ps e =
    let s : ℕ = le_value (area (at + 5) 4 f) in
    needed (eqb (le_value (area (at + 1) 4 f)) offset) _ e λ t k.
    needed (leb (offset + s) (length f)) _ k λ u k2.
    answered (rows_left n (at + 9) (offset + s) f) _ k2 λ qs w k3.
    ap length (sym (some_is k3)) ∙ ap suc (rows_count n (at + 9) (offset + s) f qs w)

-- of a file that was read: how many parts, the contents lie inside it, and each row
pub record FileRows (f : List ℕ) (ps : List Part) : Type 0 where
  pub count : length ps ≡ le_value (area 1 2 f)
  pub contents_inside : 3 + 9 * length ps ≤ length f
  pub row_at : (r : ℕ) → r < length ps → RowAt f (3 + 9 * r) r ps

pub file_rows : (f : List ℕ) (ps : List Part) → read_file f ≡ Some ps → FileRows f ps
unfolding read_file
file_rows f ps e =
    let n : ℕ = le_value (area 1 2 f) in
    needed (both (leb 3 (length f)) (eqb (get_or f 0 0) 1)) _ e λ t k.
    needed (leb (3 + 9 * n) (length f)) _ k λ u k2.
    let c : length ps ≡ n = rows_count n 3 (3 + 9 * n) f ps k2 in
    let l = leb-true (3 + 9 * n) (length f) u in
    record { count = c; contents_inside = omega arith; row_at = λ r h. rows_in n 3 (3 + 9 * n) r f ps k2 (omega arith) }
