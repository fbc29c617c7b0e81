-- Numbers of w bytes each, written one after the other and read back. Assumes nothing.
use mathlib.Core.Path.{◌≡◌, refl, sym, ap, ap₂, ◌∙◌, subst⁻¹}
use mathlib.Core.List.{List, [], ◌∷◌, ◌++◌, append_assoc}
use Prim.Native.Nat.{ℕ, zero, suc, ◌+◌, ◌*◌, ◌^◌, ◌<◌, ◌≤◌}
use native.Mathlib.Nat.{add_assoc}
use native.Mathlib.Omega.{arith}
use lib.ListN.{length, drop, get_or, length-append, drop_of_length-le}
use Rattle.octets.specs.Bytes.{Bytes, le, le_value}
use Rattle.octets.specs.Place.{area, put}
use Rattle.octets.proofs.Laws.{cut, length_le, value_le, le_value_lem, length_area, bytes_area, bytes_nil, bytes_append, bytes_le, area_add, area_none, area_left, area_append_right, put_append, put_none, length_put}
use Rattle.radix_bytes.specs.Bytes.{word_bytes, words_at, Fit}

pub length_words : (w : ℕ) (vs : List ℕ) → length (word_bytes w vs) ≡ w * length vs
unfolding word_bytes
length_words w [] = omega arith
length_words w (v ∷ vs) =
    omega (arith, length-append (le w v) (word_bytes w vs), length_le w v, length_words w vs)

pub words_right : (w : ℕ) (xs ys : List ℕ) (at n : ℕ) → words_at w (xs ++ ys) (length xs + at) n ≡ words_at w ys at n
unfolding words_at
words_right w xs ys at zero = refl
words_right w xs ys at (suc n) =
    ap₂ (λ (v : ℕ) (vs : List ℕ). v ∷ vs) (ap le_value (area_append_right xs ys at w)) (ap (λ (i : ℕ). words_at w (xs ++ ys) i n) (add_assoc (length xs) at w) ∙ words_right w xs ys (at + w) n)

-- what was written is read back
pub words_back : (w : ℕ) (vs zs : List ℕ) → Fit w vs → words_at w (word_bytes w vs ++ zs) 0 (length vs) ≡ vs
unfolding words_at word_bytes
words_back w [] zs h = refl
words_back w (v ∷ vs) zs h =
    let e : (le w v ++ word_bytes w vs) ++ zs ≡ le w v ++ (word_bytes w vs ++ zs) = append_assoc (le w v) (word_bytes w vs) zs in
    let p : 0 + w ≡ length (le w v) + 0 = omega (arith, length_le w v) in
    ap (λ (s : List ℕ). le_value (area 0 w s) ∷ words_at w s (0 + w) (length vs)) e
    ∙ ap₂ (λ (x : ℕ) (xs : List ℕ). x ∷ xs)
    (ap le_value (area_left (le w v) (word_bytes w vs ++ zs) w (length_le w v)) ∙ value_le w v h.0)
    (ap (λ (i : ℕ). words_at w (le w v ++ (word_bytes w vs ++ zs)) i (length vs)) p ∙ words_right w (le w v) (word_bytes w vs ++ zs) 0 (length vs) ∙ words_back w vs zs h.1)

-- what was read is written back
pub words_again : (w : ℕ) (s : List ℕ) (at n : ℕ) → Bytes s → at + w * n ≤ length s → word_bytes w (words_at w s at n) ≡ area at (w * n) s
unfolding words_at word_bytes
words_again w s at zero b h =
    let e : w * 0 ≡ 0 = omega arith in
    sym (ap (λ (m : ℕ). area at m s) e ∙ area_none at s)
words_again w s at (suc n) b h =
    let e : w * suc n ≡ w + w * n = omega arith in
    let l : length (area at w s) ≡ w = length_area at w s (omega arith) in
    ap₂ (λ (xs ys : List ℕ). xs ++ ys) (ap (λ (i : ℕ). le i (le_value (area at w s))) (sym l) ∙ le_value_lem (area at w s) (bytes_area at w b)) (words_again w s (at + w) n b (omega arith))
    ∙ sym (area_add at w (w * n) s)
    ∙ ap (λ (m : ℕ). area at m s) (sym e)

pub bytes_words : (w : ℕ) (vs : List ℕ) → Bytes (word_bytes w vs)
unfolding word_bytes
bytes_words w [] = bytes_nil
bytes_words w (v ∷ vs) = bytes_append (bytes_le w v) (bytes_words w vs)

-- a loop that writes the numbers of a
module _ (w at : ℕ) (a : List ℕ) where
  pub write_start : (out : List ℕ) → put out at (word_bytes w a) ≡ put out (at + w * 0) (word_bytes w (drop 0 a))
  write_start out =
      let e : at ≡ at + w * 0 = omega arith in
      ap (λ (i : ℕ). put out i (word_bytes w a)) e

  pub write_next : (i v : ℕ) (out : List ℕ) → i < length a → at + w * i ≤ length out → v ≡ get_or a i 0
      → put out (at + w * i) (word_bytes w (drop i a)) ≡ put (put out (at + w * i) (le w v)) (at + w * (i + 1)) (word_bytes w (drop (i + 1) a))
  unfolding word_bytes
  write_next i v out h l e =
      let q : at + w * i + length (le w v) ≡ at + w * (i + 1) = omega (arith, length_le w v) in
      ap (λ (l : List ℕ). put out (at + w * i) (word_bytes w l)) (cut a i h)
      ∙ ap (λ (x : ℕ). put out (at + w * i) (le w x ++ word_bytes w (drop (i + 1) a))) (sym e)
      ∙ sym (put_append out (at + w * i) (le w v) (word_bytes w (drop (i + 1) a)) l)
      ∙ ap (λ (j : ℕ). put (put out (at + w * i) (le w v)) j (word_bytes w (drop (i + 1) a))) q

  pub write_length : (i v : ℕ) (out : List ℕ) → at + w * i + w ≤ length out → length (put out (at + w * i) (le w v)) ≡ length out
  write_length i v out h = length_put out (at + w * i) (le w v) (omega (arith, length_le w v))

  pub write_end : (i : ℕ) (out : List ℕ) → length a ≤ i → put out (at + w * i) (word_bytes w (drop i a)) ≡ out
  unfolding word_bytes
  write_end i out h =
      ap (λ (l : List ℕ). put out (at + w * i) (word_bytes w l)) (drop_of_length-le a h) ∙ put_none out (at + w * i)

  pub fit_next : (i v : ℕ) → i < length a → v ≡ get_or a i 0 → v < 2 ^ (8 * w) → Fit w (drop (i + 1) a) → Fit w (drop i a)
  fit_next i v h e l f = subst⁻¹ (Fit w) (cut a i h) (rw e at l, f)

  pub fit_end : (i : ℕ) → length a ≤ i → Fit w (drop i a)
  fit_end i h = subst⁻¹ (Fit w) (drop_of_length-le a h) tt
