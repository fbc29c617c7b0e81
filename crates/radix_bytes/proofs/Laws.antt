-- What callers cite: each of bytes_of and record_from undoes the other. Assumes nothing.
use mathlib.Core.Path.{◌≡◌, refl, sym, ap, ap₂, ◌∙◌}
use mathlib.Core.List.{List, ◌++◌, append_assoc}
use Prim.Native.Nat.{ℕ, ◌+◌, ◌*◌, ◌^◌, ◌<◌, ◌≤◌}
use native.Mathlib.Omega.{arith}
use lib.ListN.{length, length-append}
use Rattle.octets.specs.Bytes.{Bytes, le, le_value}
use Rattle.octets.specs.Place.{area, put}
use Rattle.octets.proofs.Laws.{length_le, value_le, le_value_lem, length_area, bytes_area, bytes_append, bytes_le, area_add, area_all, area_left, area_right, area_append_right, put_append, put_all}
use Rattle.radix.specs.declared.Index.{Index}
use Rattle.radix_bytes.specs.Bytes.{word_bytes, words_at, bytes_of, record_from, Fit, record_size, children_at, values_at, labels_at}
use Rattle.radix_bytes.proofs.Words.{length_words, words_right, words_back, words_again, bytes_words}
pub use Rattle.radix_bytes.proofs.Places.{len_of, key_of, child_of, next_of, value_of, label_of_lem, label_in, label_size}

-- what stands after a part of n bytes
after : (xs ys : List ℕ) (n at m : ℕ) → length xs ≡ n → area (n + at) m (xs ++ ys) ≡ area at m ys
after xs ys n at m e = ap (λ (i : ℕ). area (i + at) m (xs ++ ys)) (sym e) ∙ area_append_right xs ys at m

words_after : (w : ℕ) (xs ys : List ℕ) (n at m : ℕ) → length xs ≡ n → words_at w (xs ++ ys) (n + at) m ≡ words_at w ys at m
words_after w xs ys n at m e = ap (λ (i : ℕ). words_at w (xs ++ ys) (i + at) m) (sym e) ∙ words_right w xs ys at m

words_first : (w n : ℕ) (vs zs : List ℕ) → length vs ≡ n → Fit w vs → words_at w (word_bytes w vs ++ zs) 0 n ≡ vs
words_first w n vs zs e f = ap (words_at w (word_bytes w vs ++ zs) 0) (sym e) ∙ words_back w vs zs f

wide_words : (w n m : ℕ) (vs : List ℕ) → length vs ≡ n → w * n ≡ m → length (word_bytes w vs) ≡ m
wide_words w n m vs e f = length_words w vs ∙ ap (λ (i : ℕ). w * i) e ∙ f

join : (at m n : ℕ) (s : List ℕ) → area at m s ++ area (at + m) n s ≡ area at (m + n) s
join at m n s = sym (area_add at m n s)

abbrev pub record_of_lem : ℕ → List ℕ → List ℕ → List ℕ → List ℕ → List ℕ → List ℕ → Index
record_of_lem r l k c n v b = record { root = r; len = l; key = k; child = c; next = n; val = v; label = b }

pub record_same : {r r' : ℕ} {l l' k k' c c' n n' v v' b b' : List ℕ} → r ≡ r' → l ≡ l' → k ≡ k' → c ≡ c' → n ≡ n' → v ≡ v' → b ≡ b'
    → record_of_lem r l k c n v b ≡ record_of_lem r' l' k' c' n' v' b'
record_same er el ek ec en ev eb = cc

-- a record read back of its bytes
pub record_again : (x : Index) → x.root < 2 ^ 16 → length x.len ≡ 256 → length x.key ≡ 256 → length x.child ≡ 256 → Fit 2 x.child
    → length x.next ≡ 256 → Fit 2 x.next → length x.val ≡ 256 → Fit 4 x.val → length x.label ≡ 4096 → record_from (bytes_of x) ≡ x
unfolding record_from bytes_of
record_again x r l k c fc n fn v fv b =
    let a : List ℕ = le 2 x.root in
    let wc : List ℕ = word_bytes 2 x.child in
    let wn : List ℕ = word_bytes 2 x.next in
    let wv : List ℕ = word_bytes 4 x.val in
    let t6 : List ℕ = wv ++ x.label in
    let t5 : List ℕ = wn ++ t6 in
    let t4 : List ℕ = wc ++ t5 in
    let t3 : List ℕ = x.key ++ t4 in
    let t2 : List ℕ = x.len ++ t3 in
    let la : length a ≡ 2 = length_le 2 x.root in
    let lc : length wc ≡ 512 = wide_words 2 256 512 x.child c refl in
    let ln : length wn ≡ 512 = wide_words 2 256 512 x.next n refl in
    let lv : length wv ≡ 1024 = wide_words 4 256 1024 x.val v refl in
    record_same (ap le_value (area_left a t2 2 la) ∙ value_le 2 x.root r) (after a t2 2 0 256 la ∙ area_left x.len t3 256 l) (after a t2 2 256 256 la ∙ after x.len t3 256 0 256 l ∙ area_left x.key t4 256 k)
    (words_after 2 a t2 2 512 256 la ∙ words_after 2 x.len t3 256 256 256 l ∙ words_after 2 x.key t4 256 0 256 k ∙ words_first 2 256 x.child t5 c fc)
    (words_after 2 a t2 2 1024 256 la ∙ words_after 2 x.len t3 256 768 256 l ∙ words_after 2 x.key t4 256 512 256 k ∙ words_after 2 wc t5 512 0 256 lc ∙ words_first 2 256 x.next t6 n fn)
    (words_after 4 a t2 2 1536 256 la ∙ words_after 4 x.len t3 256 1280 256 l ∙ words_after 4 x.key t4 256 1024 256 k ∙ words_after 4 wc t5 512 512 256 lc ∙ words_after 4 wn t6 512 0 256 ln ∙ words_first 4 256 x.val x.label v fv)
    (after a t2 2 2560 4096 la ∙ after x.len t3 256 2304 4096 l ∙ after x.key t4 256 2048 4096 k ∙ after wc t5 512 1536 4096 lc ∙ after wn t6 512 1024 4096 ln ∙ area_right wv x.label 1024 4096 lv b)

-- how many bytes there are, each of them a byte
pub length_bytes : (x : Index) → length x.len ≡ 256 → length x.key ≡ 256 → length x.child ≡ 256 → length x.next ≡ 256 → length x.val ≡ 256 → length x.label ≡ 4096
    → length (bytes_of x) ≡ 6658
unfolding bytes_of
length_bytes x l k c n v b =
    simp (length-append, length_le) (omega (arith, l, k, b, wide_words 2 256 512 x.child c refl, wide_words 2 256 512 x.next n refl, wide_words 4 256 1024 x.val v refl))

pub bytes_bytes : (x : Index) → Bytes x.len → Bytes x.key → Bytes x.label → Bytes (bytes_of x)
unfolding bytes_of
bytes_bytes x l k b =
    bytes_append (bytes_le 2 x.root) (bytes_append l (bytes_append k (bytes_append (bytes_words 2 x.child) (bytes_append (bytes_words 2 x.next) (bytes_append (bytes_words 4 x.val) b)))))

-- bytes written back of what was read of them
pub bytes_back : (s : List ℕ) → Bytes s → length s ≡ 6658 → bytes_of (record_from s) ≡ s
unfolding record_from bytes_of
bytes_back s h l =
    let r : le 2 (le_value (area 0 2 s)) ≡ area 0 2 s = ap (λ (i : ℕ). le i (le_value (area 0 2 s))) (sym (length_area 0 2 s (omega arith))) ∙ le_value_lem (area 0 2 s) (bytes_area 0 2 h) in
    let c : word_bytes 2 (words_at 2 s 514 256) ≡ area 514 512 s = words_again 2 s 514 256 h (omega arith) in
    let n : word_bytes 2 (words_at 2 s 1026 256) ≡ area 1026 512 s = words_again 2 s 1026 256 h (omega arith) in
    let v : word_bytes 4 (words_at 4 s 1538 256) ≡ area 1538 1024 s = words_again 4 s 1538 256 h (omega arith) in
    ap₂ (λ (a t : List ℕ). a ++ t) r
    (ap (λ (t : List ℕ). area 2 256 s ++ t)
    (ap (λ (t : List ℕ). area 258 256 s ++ t)
    (ap₂ (λ (a t : List ℕ). a ++ t) c (ap₂ (λ (a t : List ℕ). a ++ t) n (ap (λ (a : List ℕ). a ++ area 2562 4096 s) v ∙ join 1538 1024 4096 s) ∙ join 1026 512 5120 s) ∙ join 514 512 5632 s) ∙ join 258 256 6144 s) ∙ join 2 256 6400 s)
    ∙ join 0 2 6656 s
    ∙ ap (λ (i : ℕ). area 0 i s) (sym l)
    ∙ area_all s

pub label_bytes : (s : List ℕ) → Bytes s → Bytes (record_from s).label
unfolding record_from
label_bytes s h = bytes_area 2562 4096 h

-- two parts
pub put_next : (s : List ℕ) (at : ℕ) (a : List ℕ) (p : ℕ) (b : List ℕ) → at + length a ≡ p → at ≤ length s → put (put s at a) p b ≡ put s at (a ++ b)
put_next s at a p b e h = ap (λ (i : ℕ). put (put s at a) i b) (sym e) ∙ put_append s at a b h

pub two_written : (s o q : List ℕ) (at : ℕ) (a : List ℕ) (p : ℕ) (b : List ℕ) → at + length a ≡ p → at ≤ length s → o ≡ put s at a → q ≡ put o p b → q ≡ put s at (a ++ b)
two_written s o q at a p b e h f g = g ∙ ap (λ (y : List ℕ). put y p b) f ∙ put_next s at a p b e h

-- the parts written one after the other
pub parts_written : (x : Index) (s o p q r : List ℕ) → length s ≡ record_size → length x.len ≡ 256 → length x.key ≡ 256 → length x.child ≡ 256 → length x.next ≡ 256 → length x.val ≡ 256 → length x.label ≡ 4096
    → o ≡ put s 0 (le 2 x.root ++ (x.len ++ x.key)) → p ≡ put o children_at (word_bytes 2 x.child ++ word_bytes 2 x.next) → q ≡ put p values_at (word_bytes 4 x.val) → r ≡ put q labels_at x.label → r ≡ bytes_of x
unfolding bytes_of
parts_written x s o p q r z l k c n v b eo ep eq er =
    let a : List ℕ = le 2 x.root in
    let wc : List ℕ = word_bytes 2 x.child in
    let wn : List ℕ = word_bytes 2 x.next in
    let wv : List ℕ = word_bytes 4 x.val in
    let h : List ℕ = a ++ (x.len ++ x.key) in
    let t : List ℕ = h ++ (wc ++ wn) in
    let u : List ℕ = t ++ wv in
    let la : length a ≡ 2 = length_le 2 x.root in
    let lc : length wc ≡ 512 = wide_words 2 256 512 x.child c refl in
    let ln : length wn ≡ 512 = wide_words 2 256 512 x.next n refl in
    let lv : length wv ≡ 1024 = wide_words 4 256 1024 x.val v refl in
    let lh : length h ≡ 514 = simp length-append (omega (arith, la, l, k)) in
    let lt : length t ≡ 1538 = length-append h (wc ++ wn) ∙ (simp length-append (omega (arith, lh, lc, ln))) in
    let lu : length u ≡ 2562 = length-append t wv ∙ (omega (arith, lt, lv)) in
    let lz : length (u ++ x.label) ≡ length s = length-append u x.label ∙ (omega (arith, lu, b, z)) in
    two_written s q r 0 u labels_at x.label (omega (arith, lu)) (omega arith)
    (two_written s p q 0 t values_at wv (omega (arith, lt)) (omega arith) (two_written s o p 0 h children_at (wc ++ wn) (omega (arith, lh)) (omega arith) eo ep) eq) er
    ∙ put_all s (u ++ x.label) lz
    ∙ simp append_assoc
