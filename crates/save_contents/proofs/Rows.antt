-- Rows of the contents: written one after the other, worked out from sizes, and that they are the contents of the parts. Assumes nothing.
use mathlib.Core.Path.{◌≡◌, refl, sym, ap, ap₂, ◌∙◌}
use mathlib.Core.List.{List, [], ◌∷◌, ◌++◌, append_assoc, map}
use Prim.Native.Nat.{ℕ, ◌+◌, ◌-◌, ◌*◌, ◌≤◌, ◌<◌}
use native.Mathlib.Omega.{arith}
use lib.ListN.{length, take, get_or, set, length-append}
use lib.Seq.{length-take-le}
use Rattle.octets.specs.Bytes.{le}
use Rattle.octets.specs.Place.{area, put}
use Rattle.octets.proofs.Laws.{length_le, put_first, put_append, area_front, area_none, area_first}
use Rattle.snapshot.specs.Bytes.{Part, contents, bodies}
use Rattle.save_contents.specs.Sizes.{row_of, rows_of, size_of, table_of, file_size}

-- what is put where the bytes before it end
pub put_next : (s d : List ℕ) (at to : ℕ) (x y : List ℕ) → d ≡ put s at x → to ≡ at + length x → at ≤ length s → put d to y ≡ put s at (x ++ y)
put_next s d at to x y e f h = ap₂ (λ (l : List ℕ) (n : ℕ). put l n y) e f ∙ put_append s at x y h

pub row_length : (kind offset size : ℕ) → length (row_of kind offset size) ≡ 9
unfolding row_of
row_length kind offset size = omega (arith, length-append (le 4 offset) (le 4 size), length_le 4 offset, length_le 4 size)

pub rows_length : (kind head offset : ℕ) (ns : List ℕ) → length (rows_of kind head offset ns) ≡ length ns * 9
unfolding rows_of
rows_length kind head offset [] = refl
rows_length kind head offset (n ∷ ns) =
    let r : List ℕ = rows_of kind head (offset + (head + n)) ns in
    omega (arith, length-append (row_of kind offset (head + n)) r, row_length kind offset (head + n), rows_length kind head (offset + (head + n)) ns)

-- a row, number by number
pub row_put_lem : (s : List ℕ) (at kind offset size : ℕ) → at + 9 ≤ length s
    → put (put (set s at kind) (at + 1) (le 4 offset)) (at + 5) (le 4 size) ≡ put s at (row_of kind offset size)
unfolding row_of
row_put_lem s at kind offset size h =
    put_next s _ at (at + 5) (kind ∷ le 4 offset) (le 4 size) (sym (put_first s at kind (le 4 offset) (omega arith))) (omega (arith, length_le 4 offset)) (omega arith)

-- the sizes that are left from i on
pub sizes_start : (n : ℕ) (s : List ℕ) → area 0 (n - 0) s ≡ take n s
sizes_start n s = let e : n - 0 ≡ n = omega arith in ap (λ (k : ℕ). area 0 k s) e ∙ area_front n s

module _ (s : List ℕ) (i n : ℕ) where
  sizes_end : n ≤ i → area i (n - i) s ≡ []
  sizes_end h = let e : n - i ≡ 0 = omega arith in ap (λ (k : ℕ). area i k s) e ∙ area_none i s

  pub sum_end : n ≤ i → (head : ℕ) → size_of head (area i (n - i) s) ≡ 0
  unfolding size_of
  sum_end h head = ap (size_of head) (sizes_end h)

  pub rows_end : n ≤ i → (kind head offset : ℕ) → rows_of kind head offset (area i (n - i) s) ≡ []
  unfolding rows_of
  rows_end h kind head offset = ap (rows_of kind head offset) (sizes_end h)

  module _ (h : i < n) (k : n ≤ length s) where
    turn : area i (n - i) s ≡ get_or s i 0 ∷ area (i + 1) (n - (i + 1)) s
    turn =
        let e : n - i ≡ n - (i + 1) + 1 = omega arith in
        ap (λ (j : ℕ). area i j s) e ∙ area_first i (n - (i + 1)) s (omega arith)

    pub sum_turn : (head : ℕ) → size_of head (area i (n - i) s) ≡ head + get_or s i 0 + size_of head (area (i + 1) (n - (i + 1)) s)
    unfolding size_of
    sum_turn head = ap (size_of head) turn

    pub rows_turn : (kind head offset : ℕ)
        → rows_of kind head offset (area i (n - i) s)
        ≡ row_of kind offset (head + get_or s i 0) ++ rows_of kind head (offset + (head + get_or s i 0)) (area (i + 1) (n - (i + 1)) s)
    unfolding rows_of
    rows_turn kind head offset = ap (rows_of kind head offset) turn

-- parts of one kind, the size of each known but for its first bytes
module _ {A : Type 0} (f : A → Part) (kind head : ℕ) (size : A → ℕ) (k : (a : A) → (f a).kind ≡ kind) (l : (a : A) → length (f a).body ≡ head + size a) where
  pub rows_are : (offset : ℕ) (xs : List A) → contents offset (map f xs) ≡ rows_of kind head offset (map size xs)
  unfolding contents rows_of row_of
  rows_are offset [] = refl
  rows_are offset (a ∷ xs) =
      let n : ℕ = head + size a in
      ap₂ (λ (x m : ℕ). x ∷ (le 4 offset ++ (le 4 m ++ contents (offset + m) (map f xs)))) (k a) (l a)
      ∙ ap (λ (r : List ℕ). kind ∷ (le 4 offset ++ (le 4 n ++ r))) (rows_are (offset + n) xs)
      ∙ ap (λ (r : List ℕ). kind ∷ r) (sym (append_assoc (le 4 offset) (le 4 n) (rows_of kind head (offset + n) (map size xs))))

  pub bytes_are : (xs : List A) → length (bodies (map f xs)) ≡ size_of head (map size xs)
  unfolding bodies size_of
  bytes_are [] = refl
  bytes_are (a ∷ xs) = omega (arith, length-append (f a).body (bodies (map f xs)), l a, bytes_are xs)

-- the sizes at the front of two arrays
pub file_sizes : (ns gs : List ℕ) (n k : ℕ) → n ≤ length ns → k ≤ length gs
    → file_size (take n ns) (take k gs) ≡ 28 + (n + k) * 9 + (size_of 16 (take n ns) + size_of 0 (take k gs))
unfolding file_size
file_sizes ns gs n k h l = omega (arith, length-take-le n ns h, length-take-le k gs l)

-- the table, write by write
module _ (s ns gs : List ℕ) (n k : ℕ) (e : length ns ≡ n) (f : length gs ≡ k) (h : 12 ≤ length s) where
  abbrev first : ℕ
  first = 12 + (n + k) * 9

  abbrev start : List ℕ
  start = 1 ∷ le 2 (1 + (n + k))

  abbrev nodes : List ℕ
  nodes = rows_of 2 16 (first + 16) ns

  abbrev groups : List ℕ
  groups = rows_of 3 0 (first + 16 + size_of 16 ns) gs

  whole : ((start ++ row_of 1 first 16) ++ nodes) ++ groups ≡ table_of ns gs
  unfolding table_of
  whole =
      let q : n + k ≡ length ns + length gs = omega arith in
      simp append_assoc (ap (λ (m : ℕ). 1 ∷ (le 2 (1 + m) ++ (row_of 1 (12 + m * 9) 16 ++ (rows_of 2 16 (12 + m * 9 + 16) ns ++ rows_of 3 0 (12 + m * 9 + 16 + size_of 16 ns) gs)))) q)

  pub table_put : (a b c d : List ℕ) → a ≡ put (set s 0 1) 1 (le 2 (1 + (n + k))) → b ≡ put a 3 (row_of 1 (12 + (n + k) * 9) 16)
      → c ≡ put b 12 (rows_of 2 16 (12 + (n + k) * 9 + 16) ns) → d ≡ put c (12 + n * 9) (rows_of 3 0 (12 + (n + k) * 9 + 16 + size_of 16 ns) gs)
      → d ≡ put s 0 (table_of ns gs)
  table_put a b c d p q r t =
      let z : 0 ≤ length s = omega arith in
      let l1 : length start ≡ 3 = omega (arith, length_le 2 (1 + (n + k))) in
      let l2 : length (start ++ row_of 1 first 16) ≡ 12 = omega (arith, length-append start (row_of 1 first 16), row_length 1 first 16) in
      let l3 : length ((start ++ row_of 1 first 16) ++ nodes) ≡ 12 + n * 9 = omega (arith, length-append (start ++ row_of 1 first 16) nodes, rows_length 2 16 (first + 16) ns) in
      let p1 : a ≡ put s 0 start = p ∙ sym (put_first s 0 1 (le 2 (1 + (n + k))) (omega arith)) in
      let p2 : b ≡ put s 0 (start ++ row_of 1 first 16) = q ∙ put_next s a 0 3 start (row_of 1 first 16) p1 (omega arith) z in
      let p3 : c ≡ put s 0 ((start ++ row_of 1 first 16) ++ nodes) = r ∙ put_next s b 0 12 (start ++ row_of 1 first 16) nodes p2 (omega arith) z in
      t ∙ put_next s c 0 (12 + n * 9) ((start ++ row_of 1 first 16) ++ nodes) groups p3 (omega arith) z ∙ ap (put s 0) whole
