-- Rows of a table: how many, which, and one more. Assumes nothing.
use mathlib.Core.Bool.{Bool, true, false}
use mathlib.Core.Path.{◌≡◌, refl, sym, ap, ap₂, ◌∙◌}
use mathlib.Core.List.{List, [], ◌∷◌, ◌++◌, append_assoc}
use Prim.Native.Nat.{ℕ, zero, suc, ◌+◌, ◌*◌, ◌-◌, ◌≤◌, ◌<◌, min}
use native.Mathlib.Nat.{add-zero, zero-add}
use native.Mathlib.Omega.{arith}
use lib.ListN.{length, get_or, set, take, drop}
use lib.Seq.{get_or-set_same, get_or-set_other}
use Rattle.octets.specs.Place.{area, put}
use Rattle.octets.proofs.Laws.{area_before, area_put_at}
use Rattle.keys.specs.Entries.{Entry, entry, length_of}
use Rattle.octets.specs.Compare.{comes_before}
use Rattle.keys.specs.Rank.{rank}
use Rattle.keys.specs.Table.{Columns, columns, row_at, rows_from}
use Rattle.keys.proofs.Positions.{rank_before, rank_not}

pub length_rows : (t : Columns) (i n : ℕ) → length (rows_from t i n) ≡ n
unfolding rows_from
length_rows t i zero = refl
length_rows t i (suc n) = ap suc (length_rows t (i + 1) n)

pub rows_same : (t u : Columns) (i n : ℕ) → ((j : ℕ) → j < i + n → row_at t j ≡ row_at u j) → rows_from t i n ≡ rows_from u i n
unfolding rows_from
rows_same t u i zero h = refl
rows_same t u i (suc n) h =
    ap₂ (λ (e : Entry) (es : List Entry). e ∷ es) (h i (omega arith)) (rows_same t u (i + 1) n (λ j k. h j (omega arith)))

pub rows_last : (t : Columns) (i n : ℕ) → rows_from t i (suc n) ≡ rows_from t i n ++ (row_at t (i + n) ∷ [])
unfolding rows_from
rows_last t i zero = rw add-zero
rows_last t i (suc n) =
    let e : i + 1 + n ≡ i + suc n = omega arith in
    ap (λ (es : List Entry). row_at t i ∷ es) (rows_last t (i + 1) n ∙ ap (λ (j : ℕ). rows_from t (i + 1) n ++ (row_at t j ∷ [])) e)

-- a row written after the others
module _ (len val key : List ℕ) (n d v : ℕ) (bs : List ℕ) (a : length len ≡ 64) (b : length val ≡ 64) (c : length key ≡ 1024) (m : n < 64) (e : length bs ≡ d) (h : d ≤ 16) where
  new : Columns
  new = columns (set len n d) (set val n v) (put key (16 * n) bs)

  new_row : row_at new n ≡ entry bs v
  unfolding new
  new_row =
      let i : n < length len = omega arith in
      let j : n < length val = omega arith in
      let k : min d 16 ≡ length bs = omega arith in
      ap₂ entry
      (ap (λ (w : ℕ). area (16 * n) (min w 16) (put key (16 * n) bs)) (get_or-set_same len n d 0 i) ∙ area_put_at key (16 * n) bs (omega arith) (min d 16) (sym k))
      (get_or-set_same val n v 0 j)

  old_row : (j : ℕ) → j < n → row_at new j ≡ row_at (columns len val key) j
  unfolding new
  old_row j k =
      let z : j ≡ n → ⊥ = omega arith in
      ap₂ entry
      (ap (λ (w : ℕ). area (16 * j) (min w 16) (put key (16 * n) bs)) (get_or-set_other len n j d 0 z) ∙ area_before key (16 * n) bs (omega arith) (16 * j) (length_of len j) (omega arith))
      (get_or-set_other val n j v 0 z)

  pub row_added : rows_from (columns (set len n d) (set val n v) (put key (16 * n) bs)) 0 (suc n) ≡ rows_from (columns len val key) 0 n ++ (entry bs v ∷ [])
  unfolding new
  row_added =
      rows_last new 0 n
      ∙ ap₂ (λ (es : List Entry) (r : Entry). es ++ (r ∷ [])) (rows_same new (columns len val key) 0 n (λ j k. old_row j (omega arith)))
      (ap (row_at new) (zero-add n) ∙ new_row)

-- the first row, and the others
pub rows_first : (t : Columns) (i b : ℕ) → i < b → rows_from t i (b - i) ≡ row_at t i ∷ rows_from t (i + 1) (b - (i + 1))
unfolding rows_from
rows_first t i b h = let e : b - i ≡ suc (b - (i + 1)) = omega arith in ap (rows_from t i) e

pub rows_none : (t : Columns) (i n : ℕ) → n ≡ 0 → rows_from t i n ≡ []
unfolding rows_from
rows_none t i n e = ap (rows_from t i) e

pub rows_take : (t : Columns) (c i n : ℕ) → c ≤ n → take c (rows_from t i n) ≡ rows_from t i c
unfolding rows_from
rows_take t zero i n h = refl
rows_take t (suc c) i zero h = absurd (omega arith)
rows_take t (suc c) i (suc n) h = ap (λ (es : List Entry). row_at t i ∷ es) (rows_take t c (i + 1) n (omega arith))

pub rows_drop : (t : Columns) (c i n : ℕ) → c ≤ n → drop c (rows_from t i n) ≡ rows_from t (i + c) (n - c)
unfolding rows_from
rows_drop t zero i n h = let e : n - 0 ≡ n = omega arith in rw (add-zero, e)
rows_drop t (suc c) i zero h = absurd (omega arith)
rows_drop t (suc c) i (suc n) h =
    let e : i + 1 + c ≡ i + suc c = omega arith in
    let f : suc n - suc c ≡ n - c = omega arith in
    rows_drop t c (i + 1) n (omega arith) ∙ ap₂ (λ (j k : ℕ). rows_from t j k) e (sym f)

pub rows_get : (t : Columns) (c i n : ℕ) (d : Entry) → c < n → get_or (rows_from t i n) c d ≡ row_at t (i + c)
unfolding rows_from
rows_get t zero i zero d h = absurd (omega arith)
rows_get t zero i (suc n) d h = rw add-zero
rows_get t (suc c) i zero d h = absurd (omega arith)
rows_get t (suc c) i (suc n) d h = let e : i + 1 + c ≡ i + suc c = omega arith in rows_get t c (i + 1) n d (omega arith) ∙ ap (row_at t) e

-- one row copied
module _ (t : Columns) (i : ℕ) where
  pub copied : (b : ℕ) (xs ys zs : List Entry) → i < b → ys ≡ xs ++ (row_at t i ∷ []) → xs ++ rows_from t i (b - i) ≡ zs → ys ++ rows_from t (i + 1) (b - (i + 1)) ≡ zs
  copied b xs ys zs h e f =
      let r = rows_from t (i + 1) (b - (i + 1)) in
      ap (λ (l : List Entry). l ++ r) e ∙ append_assoc xs (row_at t i ∷ []) r ∙ ap (λ (l : List Entry). xs ++ l) (sym (rows_first t i b h)) ∙ f

-- a key's place among the rows
module _ (t : Columns) (k : List ℕ) (i n : ℕ) (b : Bool) (h : i < n) (e : b ≡ comes_before (area (16 * i) (length_of t.len i) t.key) k) where
  pub rank_stop : b ≡ false → i ≡ i + rank k (rows_from t i (n - i))
  rank_stop f = let z = ap (rank k) (rows_first t i n h) ∙ rank_not k (row_at t i) _ (sym e ∙ f) in omega arith

  pub rank_more : b ≡ true → i + 1 + rank k (rows_from t (i + 1) (n - (i + 1))) ≡ i + rank k (rows_from t i (n - i))
  rank_more f = let z = ap (rank k) (rows_first t i n h) ∙ rank_before k (row_at t i) _ (sym e ∙ f) in omega arith

pub rank_end : (t : Columns) (k : List ℕ) (i n : ℕ) → n ≡ 0 → i ≡ i + rank k (rows_from t i n)
unfolding rank
rank_end t k i n e = let z = ap (rank k) (rows_none t i n e) in omega arith

-- the first r rows, a new one, and those from s on
module _ (t : Columns) (n r s : ℕ) (h : r ≤ n) (k : s ≤ n) where
  front : {xs os : List Entry} → os ≡ [] → xs ≡ os ++ rows_from t 0 (r - 0) → xs ≡ take r (rows_from t 0 n)
  front o e =
      e ∙ ap (λ (l : List Entry). l ++ rows_from t 0 (r - 0)) o ∙ ap (rows_from t 0) (let z : r - 0 ≡ r = omega arith in z) ∙ sym (rows_take t r 0 n h)

  behind : rows_from t s (n - s) ≡ drop s (rows_from t 0 n)
  behind = sym (rows_drop t s 0 n k ∙ ap (λ (i : ℕ). rows_from t i (n - s)) (zero-add s))

  pub rows_with : {os xs ys zs : List Entry} (e : Entry) → os ≡ [] → xs ≡ os ++ rows_from t 0 (r - 0) → ys ≡ xs ++ (e ∷ []) → zs ≡ ys ++ rows_from t s (n - s)
      → zs ≡ take r (rows_from t 0 n) ++ (e ∷ drop s (rows_from t 0 n))
  rows_with e o p q w =
      w ∙ ap₂ ◌++◌ (q ∙ ap (λ (l : List Entry). l ++ (e ∷ [])) (front o p)) behind ∙ append_assoc (take r (rows_from t 0 n)) (e ∷ []) (drop s (rows_from t 0 n))

  pub rows_without : {os xs zs : List Entry} → os ≡ [] → xs ≡ os ++ rows_from t 0 (r - 0) → zs ≡ xs ++ rows_from t s (n - s)
      → zs ≡ take r (rows_from t 0 n) ++ drop s (rows_from t 0 n)
  rows_without o p w = w ∙ ap₂ ◌++◌ (front o p) behind
