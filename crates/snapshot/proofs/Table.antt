-- A file's contents table and its bodies: what is written is read back, and what is read was written so. Assumes nothing.
use mathlib.Core.Path.{◌≡◌, refl, sym, ap, ap₂, ◌∙◌, subst}
use mathlib.Core.List.{List, [], ◌∷◌, ◌++◌, append_assoc}
use Rattle.std.proofs.Common.{Some}
use Prim.Native.Nat.{ℕ, zero, suc, ◌+◌, ◌*◌, ◌^◌, ◌≤◌, ◌<◌}
use native.Mathlib.Omega.{arith}
use lib.Dec.{leb, eqb}
use lib.ListN.{length, take, drop, get_or, length-append, take-append-drop, drop_of_length-le}
use lib.Seq.{get_or_at, drop-drop}
use borrow.Author.Tests.{le-leb, leb-true, eq-eqb, eqb-true}
use Rattle.octets.specs.Pick.{both}
use Rattle.octets.specs.Bytes.{Bytes, le, le_value}
use Rattle.octets.specs.Place.{area}
use Rattle.octets.proofs.Laws.{needed, answered, some_is, both_true, length_le, value_le, le_value_lem, length_area, area_middle, area_first, area_add, area_none, area_front, area_split, bytes_area, bytes_drop}
use Rattle.snapshot.specs.Bytes.{Part, part, contents, bodies, file_of}
use Rattle.snapshot.specs.Judge.{rows_left, read_file}

pub length_contents : (offset : ℕ) (ps : List Part) → length (contents offset ps) ≡ 9 * length ps
unfolding contents
length_contents offset [] = refl
length_contents offset (p ∷ ps) =
    omega (
      arith,
      length-append (le 4 offset) (le 4 (length p.body) ++ contents (offset + length p.body) ps),
      length-append (le 4 (length p.body)) (contents (offset + length p.body) ps),
      length_le 4 offset,
      length_le 4 (length p.body),
      length_contents (offset + length p.body) ps,
    )

pub length_file : (ps : List Part) → length (file_of ps) ≡ 3 + 9 * length ps + length (bodies ps)
unfolding file_of
length_file ps =
    let c : List ℕ = contents (3 + 9 * length ps) ps in
    omega (
      arith,
      length-append (le 2 (length ps)) (c ++ bodies ps),
      length-append c (bodies ps),
      length_le 2 (length ps),
      length_contents (3 + 9 * length ps) ps,
    )

-- one row, and what follows it
row : ℕ → Part → List ℕ
row offset p = p.kind ∷ (le 4 offset ++ le 4 (length p.body))

contents_first : (offset : ℕ) (p : Part) (ps : List Part) → contents offset (p ∷ ps) ≡ row offset p ++ contents (offset + length p.body) ps
unfolding contents row
contents_first offset p ps =
    ap (λ (l : List ℕ). p.kind ∷ l) (sym (append_assoc (le 4 offset) (le 4 (length p.body)) (contents (offset + length p.body) ps)))

length_row : (offset : ℕ) (p : Part) → length (row offset p) ≡ 9
unfolding row
length_row offset p =
    omega (arith, length-append (le 4 offset) (le 4 (length p.body)), length_le 4 offset, length_le 4 (length p.body))

-- the fields of a row in a file
module _ (f pre rest : List ℕ) (at offset : ℕ) (p : Part) (e : f ≡ pre ++ (row offset p ++ rest)) (l : length pre ≡ at) where
  row_kind : get_or f at 0 ≡ p.kind
  unfolding row
  row_kind = ap (λ (x : List ℕ). get_or x at 0) e ∙ get_or_at pre p.kind ((le 4 offset ++ le 4 (length p.body)) ++ rest) 0 at l

  row_offset : area (at + 1) 4 f ≡ le 4 offset
  unfolding row
  row_offset =
      ap (area (at + 1) 4)
      (e ∙ ap (λ (x : List ℕ). pre ++ (p.kind ∷ x)) (append_assoc (le 4 offset) (le 4 (length p.body)) rest)
      ∙ sym (append_assoc pre (p.kind ∷ []) (le 4 offset ++ (le 4 (length p.body) ++ rest))))
      ∙ area_middle (pre ++ (p.kind ∷ [])) (le 4 offset) (le 4 (length p.body) ++ rest) (at + 1) 4 (omega (arith, length-append pre (p.kind ∷ []))) (length_le 4 offset)

  row_size : area (at + 5) 4 f ≡ le 4 (length p.body)
  unfolding row
  row_size =
      let q : List ℕ = p.kind ∷ le 4 offset in
      ap (area (at + 5) 4)
      (e ∙ ap (λ (x : List ℕ). pre ++ (p.kind ∷ x)) (append_assoc (le 4 offset) (le 4 (length p.body)) rest)
      ∙ sym (append_assoc pre q (le 4 (length p.body) ++ rest)))
      ∙ area_middle (pre ++ q) (le 4 (length p.body)) rest (at + 5) 4 (omega (arith, length-append pre q, length_le 4 offset)) (length_le 4 (length p.body))

-- the rows from a place on: `pre` stands before them, `mid` are the bodies of those before
module _ (n at offset s : ℕ) (f : List ℕ) (p : Part) (ps : List Part) where
  rows_step : le_value (area (at + 1) 4 f) ≡ offset → le_value (area (at + 5) 4 f) ≡ s → offset + s ≤ length f → get_or f at 0 ≡ p.kind
      → area offset s f ≡ p.body → rows_left n (at + 9) (offset + s) f ≡ Some ps → rows_left (suc n) at offset f ≡ Some (p ∷ ps)
  unfolding rows_left
  rows_step a b l k c r = rw (b, eq-eqb (le_value (area (at + 1) 4 f)) offset a, le-leb (offset + s) (length f) l, r, k, c)

rows_end : (at offset : ℕ) (f : List ℕ) → offset ≡ length f → rows_left 0 at offset f ≡ Some []
unfolding rows_left
rows_end at offset f e = rw (eq-eqb offset (length f) e)

laid_length : (ps : List Part) (pre mid : List ℕ) (offset : ℕ) → length (pre ++ (contents offset ps ++ (mid ++ bodies ps))) ≡ length pre + 9 * length ps + length mid + length (bodies ps)
laid_length ps pre mid offset =
    omega (
      arith,
      length-append pre (contents offset ps ++ (mid ++ bodies ps)),
      length-append (contents offset ps) (mid ++ bodies ps),
      length-append mid (bodies ps),
      length_contents offset ps,
    )

rows_read : (ps : List Part) (f pre mid : List ℕ) (at offset : ℕ) → f ≡ pre ++ (contents offset ps ++ (mid ++ bodies ps)) → length pre ≡ at
    → offset ≡ at + 9 * length ps + length mid → offset + length (bodies ps) < 2 ^ 32 → rows_left (length ps) at offset f ≡ Some ps
rows_read [] f pre mid at offset e l o h =
    let n : offset ≡ length f = omega (arith, ap length e, laid_length [] pre mid offset, none) in
    rows_end at offset f n
  where
    none : length (bodies []) ≡ 0
    none = unfold bodies in refl
rows_read (p ∷ ps) f pre mid at offset e l o h =
    let s : ℕ = length p.body in
    let b : length (bodies (p ∷ ps)) ≡ s + length (bodies ps) = more in
    let c : List ℕ = contents (offset + s) ps in
    let e1 : f ≡ pre ++ (row offset p ++ (c ++ (mid ++ (p.body ++ bodies ps)))) = e ∙ laid in
    let q1 : area (at + 1) 4 f ≡ le 4 offset = row_offset f pre (c ++ (mid ++ (p.body ++ bodies ps))) at offset p e1 l in
    let q5 : area (at + 5) 4 f ≡ le 4 s = row_size f pre (c ++ (mid ++ (p.body ++ bodies ps))) at offset p e1 l in
    let e2 : f ≡ (pre ++ (row offset p ++ (c ++ mid))) ++ (p.body ++ bodies ps) = e1 ∙ body_laid in
    let e3 : f ≡ (pre ++ row offset p) ++ (c ++ ((mid ++ p.body) ++ bodies ps)) = e1 ∙ next_laid in
    let m : length f ≡ length pre + 9 * length (p ∷ ps) + length mid + length (bodies (p ∷ ps)) = ap length e ∙ laid_length (p ∷ ps) pre mid offset in
    rows_step (length ps) at offset s f p ps
    (ap le_value q1 ∙ value_le 4 offset (omega arith))
    (ap le_value q5 ∙ value_le 4 s (omega arith))
    (omega arith)
    (row_kind f pre (c ++ (mid ++ (p.body ++ bodies ps))) at offset p e1 l)
    (ap (area offset s) e2 ∙ area_middle (pre ++ (row offset p ++ (c ++ mid))) p.body (bodies ps) offset s before_length refl)
    (rows_read ps f (pre ++ row offset p) (mid ++ p.body) (at + 9) (offset + s) e3
    (omega (arith, length-append pre (row offset p), length_row offset p)) (omega (arith, length-append mid p.body)) (omega arith))
  where
    more : length (bodies (p ∷ ps)) ≡ length p.body + length (bodies ps)
    more = unfold bodies in length-append p.body (bodies ps)

    laid : pre ++ (contents offset (p ∷ ps) ++ (mid ++ bodies (p ∷ ps))) ≡ pre ++ (row offset p ++ (contents (offset + length p.body) ps ++ (mid ++ (p.body ++ bodies ps))))
    laid =
        unfold bodies in
        ap (λ (x : List ℕ). pre ++ (x ++ (mid ++ (p.body ++ bodies ps)))) (contents_first offset p ps)
        ∙ ap (λ (x : List ℕ). pre ++ x) (append_assoc (row offset p) (contents (offset + length p.body) ps) (mid ++ (p.body ++ bodies ps)))

    body_laid : pre ++ (row offset p ++ (contents (offset + length p.body) ps ++ (mid ++ (p.body ++ bodies ps))))
        ≡ (pre ++ (row offset p ++ (contents (offset + length p.body) ps ++ mid))) ++ (p.body ++ bodies ps)
    body_laid = simp append_assoc

    next_laid : pre ++ (row offset p ++ (contents (offset + length p.body) ps ++ (mid ++ (p.body ++ bodies ps))))
        ≡ (pre ++ row offset p) ++ (contents (offset + length p.body) ps ++ ((mid ++ p.body) ++ bodies ps))
    next_laid = simp append_assoc

    before_length : length (pre ++ (row offset p ++ (contents (offset + length p.body) ps ++ mid))) ≡ offset
    before_length =
        omega (
          arith,
          length-append pre (row offset p ++ (contents (offset + length p.body) ps ++ mid)),
          length-append (row offset p) (contents (offset + length p.body) ps ++ mid),
          length-append (contents (offset + length p.body) ps) mid,
          length_contents (offset + length p.body) ps,
          length_row offset p,
        )

file_step : (n : ℕ) (f : List ℕ) (ps : List Part) → 3 ≤ length f → get_or f 0 0 ≡ 1 → le_value (area 1 2 f) ≡ n → 3 + 9 * n ≤ length f
    → rows_left n 3 (3 + 9 * n) f ≡ Some ps → read_file f ≡ Some ps
unfolding read_file
file_step n f ps h v c l r = rw (c, le-leb 3 (length f) h, eq-eqb (get_or f 0 0) 1 v, le-leb (3 + 9 * n) (length f) l, r)

-- a file of parts is read as these parts
pub read_file_lem : (ps : List Part) → length ps < 65536 → length (file_of ps) < 2 ^ 32 → read_file (file_of ps) ≡ Some ps
read_file_lem ps h l =
    let m = length_file ps in
    file_step (length ps) (file_of ps) ps (omega arith) version number (omega arith)
    (rows_read ps (file_of ps) (1 ∷ le 2 (length ps)) [] 3 (3 + 9 * length ps) laid (omega (arith, length_le 2 (length ps))) (omega arith) (omega arith))
  where
    version : get_or (file_of ps) 0 0 ≡ 1
    version = unfold file_of in refl

    laid : file_of ps ≡ (1 ∷ le 2 (length ps)) ++ (contents (3 + 9 * length ps) ps ++ ([] ++ bodies ps))
    laid = unfold file_of in refl

    number : le_value (area 1 2 (file_of ps)) ≡ length ps
    number =
        ap (λ (x : List ℕ). le_value (area 1 2 x)) laid
        ∙ ap le_value (area_middle (1 ∷ []) (le 2 (length ps)) (contents (3 + 9 * length ps) ps ++ bodies ps) 1 2 refl (length_le 2 (length ps)))
        ∙ value_le 2 (length ps) (omega arith)

-- what is read of rows was written so
record RowsRead (n at offset : ℕ) (f : List ℕ) (ps : List Part) : Type 0 where
  count : length ps ≡ n
  table : area at (9 * n) f ≡ contents offset ps
  rest : drop offset f ≡ bodies ps

row_read : (at offset s : ℕ) (f : List ℕ) → Bytes f → at + 9 ≤ length f → le_value (area (at + 1) 4 f) ≡ offset → le_value (area (at + 5) 4 f) ≡ s
    → area at 9 f ≡ get_or f at 0 ∷ (le 4 offset ++ le 4 s)
row_read at offset s f b l o z =
    area_first at 8 f (omega arith)
    ∙ ap (λ (x : List ℕ). get_or f at 0 ∷ x)
    (area_add (at + 1) 4 4 f ∙ ap₂ (λ (x y : List ℕ). x ++ y) (number (at + 1) offset (omega arith) o)
    (ap (λ (k : ℕ). area k 4 f) (let e : at + 1 + 4 ≡ at + 5 = omega arith in e) ∙ number (at + 5) s (omega arith) z))
  where
    number : (i v : ℕ) → i + 4 ≤ length f → le_value (area i 4 f) ≡ v → area i 4 f ≡ le 4 v
    number i v h e = sym (le_value_lem (area i 4 f) (bytes_area i 4 b)) ∙ ap₂ le (length_area i 4 f h) e

rest_first : (offset s : ℕ) (f : List ℕ) → area offset s f ++ drop (offset + s) f ≡ drop offset f
unfolding area
rest_first offset s f =
    ap (λ (x : List ℕ). take s (drop offset f) ++ x) (sym (drop-drop s offset f)) ∙ take-append-drop s (drop offset f)

rows_more : (n at offset s : ℕ) (f : List ℕ) (ps : List Part) → Bytes f → at + 9 * suc n ≤ length f → le_value (area (at + 1) 4 f) ≡ offset
    → le_value (area (at + 5) 4 f) ≡ s → offset + s ≤ length f → RowsRead n (at + 9) (offset + s) f ps
    → RowsRead (suc n) at offset f (part (get_or f at 0) (area offset s f) ∷ ps)
unfolding contents bodies
rows_more n at offset s f ps b l o z h r =
    let p : Part = part (get_or f at 0) (area offset s f) in
    let w : length (area offset s f) ≡ s = length_area offset s f h in
    record {
      count = ap suc r.count;
      table =
          ap (λ (k : ℕ). area at k f) (let e : 9 * suc n ≡ 9 + 9 * n = omega arith in e)
          ∙ area_add at 9 (9 * n) f
          ∙ ap₂ (λ (x y : List ℕ). x ++ y) (row_read at offset s f b (omega arith) o z) r.table
          ∙ ap (λ (x : List ℕ). get_or f at 0 ∷ x) (append_assoc (le 4 offset) (le 4 s) (contents (offset + s) ps))
          ∙ ap (λ (k : ℕ). get_or f at 0 ∷ (le 4 offset ++ (le 4 k ++ contents (offset + k) ps))) (sym w);
      rest = sym (rest_first offset s f) ∙ ap (λ (x : List ℕ). area offset s f ++ x) r.rest;
    }

rows_file : (n at offset : ℕ) (f : List ℕ) (ps : List Part) → Bytes f → at + 9 * n ≤ length f → rows_left n at offset f ≡ Some ps → RowsRead n at offset f ps
unfolding rows_left
rows_file zero at offset f ps b l e =
    needed (eqb offset (length f)) (Some []) e λ t k.
    subst (RowsRead zero at offset f) (some_is k)
    (record {
      count = refl;
      table = area_none at f ∙ (unfold contents in refl);
      rest = drop_of_length-le f {i = offset} (omega (arith, eqb-true offset (length f) t)) ∙ (unfold bodies in refl);
    })
rows_file (suc n) at offset f ps b l e =
    let s : ℕ = le_value (area (at + 5) 4 f) in
    needed (eqb (le_value (area (at + 1) 4 f)) offset) _ e λ t k.
    needed (leb (offset + s) (length f)) _ k λ u k2.
    answered (rows_left n (at + 9) (offset + s) f) _ k2 λ qs r k3.
    subst (RowsRead (suc n) at offset f) (some_is k3)
    (rows_more n at offset s f qs b l (eqb-true (le_value (area (at + 1) 4 f)) offset t) refl (leb-true (offset + s) (length f) u)
    (rows_file n (at + 9) (offset + s) f qs b (omega arith) r))

-- what is read of a file was written so
pub record FileRead (f : List ℕ) (ps : List Part) : Type 0 where
  pub bytes : f ≡ file_of ps
  pub bodies_bytes : Bytes (bodies ps)

file_is : (n : ℕ) (f : List ℕ) (ps : List Part) → Bytes f → 3 + 9 * n ≤ length f → get_or f 0 0 ≡ 1 → le_value (area 1 2 f) ≡ n → RowsRead n 3 (3 + 9 * n) f ps → FileRead f ps
unfolding file_of
file_is n f ps b l v c r =
    let head : area 0 3 f ≡ 1 ∷ le 2 n =
    area_first 0 2 f (omega arith)
    ∙ ap₂ (λ (x : ℕ) (y : List ℕ). x ∷ y) v (sym (le_value_lem (area 1 2 f) (bytes_area 1 2 b)) ∙ ap₂ le (length_area 1 2 f (omega arith)) c) in
    record {
      bytes =
          sym (area_split 3 (9 * n) f)
          ∙ ap₂ (λ (x y : List ℕ). x ++ y) (sym (area_front 3 f) ∙ head) (ap₂ (λ (x y : List ℕ). x ++ y) r.table r.rest)
          ∙ ap (λ (k : ℕ). 1 ∷ (le 2 k ++ (contents (3 + 9 * k) ps ++ bodies ps))) (sym r.count);
      bodies_bytes = subst Bytes r.rest (bytes_drop (3 + 9 * n) b);
    }

pub file_read : (f : List ℕ) (ps : List Part) → Bytes f → read_file f ≡ Some ps → FileRead f ps
unfolding read_file
file_read f ps b e =
    let n : ℕ = le_value (area 1 2 f) in
    needed (both (leb 3 (length f)) (eqb (get_or f 0 0) 1)) _ e λ t k.
    needed (leb (3 + 9 * n) (length f)) _ k λ u k2.
    let v = both_true (leb 3 (length f)) (eqb (get_or f 0 0) 1) t in
    let l = leb-true (3 + 9 * n) (length f) u in
    file_is n f ps b l (eqb-true (get_or f 0 0) 1 v.1) refl (rows_file n 3 (3 + 9 * n) f ps b l k2)
