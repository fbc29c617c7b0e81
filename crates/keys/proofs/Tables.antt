-- Tables without a byte past their rows: one row more, and the rows of such a table. Assumes nothing.
use mathlib.Core.Path.{◌≡◌, refl, sym, ap, ap₂, ◌∙◌}
use mathlib.Core.List.{List, [], ◌∷◌, ◌++◌, append_assoc, append-nil}
use Prim.Native.Nat.{ℕ, zero, suc, ◌+◌, ◌*◌, ◌-◌, ◌≤◌, ◌<◌}
use native.Mathlib.Omega.{arith}
use lib.ListN.{length, set, drop, length-append, length-replicate, length-take}
use Rattle.octets.specs.Bytes.{zeros}
use Rattle.octets.specs.Place.{area, put}
use Rattle.octets.proofs.Laws.{put_at, drop_zeros, set_put}
use Rattle.keys.specs.Entries.{Entry, entry, length_of}
use Rattle.keys.specs.Table.{Columns, columns, rows_from, filled, length_column, value_column, key_column, columns_of, table_by, tabled, table_of, with_row, appended}
use Rattle.keys.specs.declared.Table.{Table}
use Rattle.keys.proofs.Every.{Short}
use Rattle.keys.proofs.Rows.{length_rows}

zeros_join : (a b : ℕ) → zeros a ++ zeros b ≡ zeros (a + b)
zeros_join zero b = let e : b ≡ 0 + b = omega arith in ap zeros e
zeros_join (suc a) b = let e : suc (a + b) ≡ suc a + b = omega arith in ap (λ (l : List ℕ). 0 ∷ l) (zeros_join a b) ∙ ap zeros e

-- w bytes more, of which bs are written and the others zero
pub put_filled : (n w : ℕ) (xs bs : List ℕ) (at : ℕ) → length xs ≡ at → length bs ≤ w → at + w ≤ n → put (filled n xs) at bs ≡ filled n (xs ++ filled w bs)
put_filled n w xs bs at a h k =
    let m : ℕ = length bs in
    let l : length (filled w bs) ≡ w = length-append bs (zeros (w - m)) ∙ (let r = length-replicate {A = ℕ} (w - m) 0 in omega arith) in
    let e : n - length xs - m ≡ (w - m) + (n - length (xs ++ filled w bs)) = omega (arith, length-append xs (filled w bs), l) in
    put_at xs (zeros (n - length xs)) bs at a
    ∙ ap (λ (z : List ℕ). xs ++ (bs ++ z)) (drop_zeros m (n - length xs) ∙ ap zeros e ∙ sym (zeros_join (w - m) (n - length (xs ++ filled w bs))))
    ∙ ap (λ (z : List ℕ). xs ++ z) (sym (append_assoc bs (zeros (w - m)) (zeros (n - length (xs ++ filled w bs)))))
    ∙ sym (append_assoc xs (filled w bs) (zeros (n - length (xs ++ filled w bs))))

length_filled : (n : ℕ) (xs : List ℕ) → length xs ≤ n → length (filled n xs) ≡ n
length_filled n xs h = length-append xs (zeros (n - length xs)) ∙ (let r = length-replicate {A = ℕ} (n - length xs) 0 in omega arith)

set_filled : (n : ℕ) (xs : List ℕ) (at v : ℕ) → length xs ≡ at → at < n → set (filled n xs) at v ≡ filled n (xs ++ (v ∷ []))
set_filled n xs at v a h = set_put (filled n xs) at v (omega (arith, length_filled n xs (omega arith))) ∙ put_filled n 1 xs (v ∷ []) at a (omega arith) (omega arith)

-- the columns of entries
length_lengths : (es : List Entry) → length (length_column es) ≡ length es
unfolding length_column
length_lengths [] = refl
length_lengths (e ∷ es) = ap suc (length_lengths es)

length_values : (es : List Entry) → length (value_column es) ≡ length es
unfolding value_column
length_values [] = refl
length_values (e ∷ es) = ap suc (length_values es)

length_keys : (es : List Entry) → Short 16 es → length (key_column es) ≡ 16 * length es
unfolding key_column
length_keys [] h = refl
length_keys (e ∷ es) h = omega (arith, length-append (filled 16 e.key) (key_column es), length_filled 16 e.key h.0, length_keys es h.1)

lengths_more : (es : List Entry) (e : Entry) → length_column (es ++ (e ∷ [])) ≡ length_column es ++ (length e.key ∷ [])
unfolding length_column
lengths_more [] e = refl
lengths_more (f ∷ es) e = ap (λ (l : List ℕ). length f.key ∷ l) (lengths_more es e)

values_more : (es : List Entry) (e : Entry) → value_column (es ++ (e ∷ [])) ≡ value_column es ++ (e.value ∷ [])
unfolding value_column
values_more [] e = refl
values_more (f ∷ es) e = ap (λ (l : List ℕ). f.value ∷ l) (values_more es e)

keys_more : (es : List Entry) (e : Entry) → key_column (es ++ (e ∷ [])) ≡ key_column es ++ filled 16 e.key
unfolding key_column
keys_more [] e = append-nil (filled 16 e.key)
keys_more (f ∷ es) e =
    ap (λ (l : List ℕ). filled 16 f.key ++ l) (keys_more es e) ∙ sym (append_assoc (filled 16 f.key) (key_column es) (filled 16 e.key))

-- one entry more is one row more
pub columns_more : (es : List Entry) (n : ℕ) (k : List ℕ) (v : ℕ) → Short 16 es → length es ≡ n → n < 64 → length k ≤ 16
    → with_row (columns_of es) n k v ≡ columns_of (es ++ (entry k v ∷ []))
unfolding columns_of
columns_more es n k v h e l m =
    columns_same
    (set_filled 64 (length_column es) n (length k) (length_lengths es ∙ e) l ∙ ap (filled 64) (sym (lengths_more es (entry k v))))
    (set_filled 64 (value_column es) n v (length_values es ∙ e) l ∙ ap (filled 64) (sym (values_more es (entry k v))))
    (put_filled 1024 16 (key_column es) k (16 * n) (omega (arith, length_keys es h)) m (omega arith) ∙ ap (filled 1024) (sym (keys_more es (entry k v))))
  where
    columns_same : {a a' b b' c c' : List ℕ} → a ≡ a' → b ≡ b' → c ≡ c' → columns a b c ≡ columns a' b' c'
    columns_same p q r = cc

length_part : (at n : ℕ) (s : List ℕ) → length (area at n s) ≤ n
unfolding area
length_part at n s = omega (arith, length-take n (drop at s))

pub rows_short : (t : Columns) (i n : ℕ) → Short 16 (rows_from t i n)
unfolding rows_from
rows_short t i zero = tt
rows_short t i (suc n) = (omega (arith, length_part (16 * i) (length_of t.len i) t.key), rows_short t (i + 1) n)

-- a row pushed on the table of entries gives the table of one entry more
pub table_more : (t : Table) (k : List ℕ) (v : ℕ) → t ≡ table_of (tabled t) → t.n < 64 → length k ≤ 16 → appended t k v ≡ table_of (tabled t ++ (entry k v ∷ []))
table_more t k v x l m =
    let c : Columns = columns t.len t.val t.key in
    let es : List Entry = rows_from c 0 t.n in
    let e : c ≡ columns_of es = ap (λ (u : Table). columns u.len u.val u.key) x in
    let n : t.n + 1 ≡ length (es ++ (entry k v ∷ [])) = omega (arith, length_rows c 0 t.n, length-append es (entry k v ∷ [])) in
    ap₂ table_by n (ap (λ (u : Columns). with_row u t.n k v) e ∙ columns_more es t.n k v (rows_short c 0 t.n) (length_rows c 0 t.n) l m)
