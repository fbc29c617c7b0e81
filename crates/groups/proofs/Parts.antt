-- The six parts of a region, and rooms of which a front is used. Assumes nothing.
use mathlib.Core.Path.{◌≡◌, sym, ap, ap₂, ◌∙◌}
use mathlib.Core.Bool.{true}
use mathlib.Core.List.{List, [], ◌∷◌, ◌++◌, append_assoc}
use Prim.Native.Nat.{ℕ, ◌+◌, ◌-◌, ◌≤◌}
use native.Mathlib.Omega.{arith}
use lib.ListN.{length, take, drop, get_or, length-append, length-replicate}
use lib.Seq.{drop_at, get_or_at}
use Rattle.octets.specs.Bytes.{zeros}
use Rattle.octets.specs.Place.{area}
use Rattle.octets.specs.Compare.{all_zero}
use Rattle.octets.proofs.Laws.{all_zero_lem, part_area, area_front, area_rest, area_add, area_first, area_middle, length_area}
use Rattle.groups.specs.Bytes.{padded}

-- a room of which the first bytes are used
pub length_padded : (room : ℕ) (bs : List ℕ) → length bs ≤ room → length (padded room bs) ≡ room
length_padded room bs h = omega (arith, length-append bs (zeros (room - length bs)), length-replicate {A = ℕ} (room - length bs) 0)

pub padded_rest : (room used : ℕ) (bs t : List ℕ) → length bs ≡ used → area used (room - used) (padded room bs ++ t) ≡ zeros (room - used)
padded_rest room used bs t e =
    let z : List ℕ = zeros (room - length bs) in
    ap (area used (room - used)) (append_assoc bs z t)
    ∙ area_middle bs z t used (room - used) e (length-replicate {A = ℕ} (room - length bs) 0 ∙ ap (λ (n : ℕ). room - n) e)
    ∙ ap (λ (n : ℕ). zeros (room - n)) e

module _ (s : List ℕ) (at used room : ℕ) (bs : List ℕ) (h : used ≤ room) (k : at + room ≤ length s) where
  pub padded_read : all_zero (area (at + used) (room - used) s) ≡ true → take used (drop at s) ≡ bs → area at room s ≡ padded room bs
  padded_read z e =
      let j : room ≡ used + (room - used) = omega arith in
      let b : area at used s ≡ bs = sym (part_area at used s) ∙ e in
      let l : length bs ≡ used = ap length (sym b) ∙ length_area at used s (omega arith) in
      let w : area (at + used) (room - used) s ≡ zeros (room - length bs) =
      all_zero_lem (area (at + used) (room - used) s) z
      ∙ ap zeros (length_area (at + used) (room - used) s (omega arith) ∙ ap (λ (n : ℕ). room - n) (sym l)) in
      ap (λ (n : ℕ). area at n s) j ∙ area_add at used (room - used) s ∙ ap₂ (λ (x y : List ℕ). x ++ y) b w

-- name, last delivered, number of consumers, consumers, number of entries, entries
abbrev pub six_parts : List ℕ → List ℕ → ℕ → List ℕ → List ℕ → List ℕ → List ℕ
six_parts n d k f c p = n ++ (d ++ (k ∷ (f ++ (c ++ p))))

module _ (n d : List ℕ) (k : ℕ) (f c p : List ℕ) (hn : length n ≡ 17) (hd : length d ≡ 16) (hf : length f ≡ 272) (hc : length c ≡ 2) where
  abbrev s : List ℕ
  s = six_parts n d k f c p

  pub part_delivered : area 17 16 s ≡ d
  part_delivered = area_middle n d (k ∷ (f ++ (c ++ p))) 17 16 hn hd

  two : length (n ++ d) ≡ 33
  two = omega (arith, length-append n d)

  pub part_count : get_or s 33 0 ≡ k
  part_count = ap (λ (l : List ℕ). get_or l 33 0) (sym (append_assoc n d (k ∷ (f ++ (c ++ p))))) ∙ get_or_at (n ++ d) k (f ++ (c ++ p)) 0 33 two

  three : length ((n ++ d) ++ (k ∷ [])) ≡ 34
  three = omega (arith, length-append (n ++ d) (k ∷ []), two)

  pub part_fields : drop 34 s ≡ f ++ (c ++ p)
  part_fields =
      let q : s ≡ ((n ++ d) ++ (k ∷ [])) ++ (f ++ (c ++ p)) = simp append_assoc in
      ap (drop 34) q ∙ drop_at ((n ++ d) ++ (k ∷ [])) (f ++ (c ++ p)) 34 three

  four : length (((n ++ d) ++ (k ∷ [])) ++ f) ≡ 306
  four = omega (arith, length-append ((n ++ d) ++ (k ∷ [])) f, three)

  pub part_number : area 306 2 s ≡ c
  part_number =
      let q : s ≡ (((n ++ d) ++ (k ∷ [])) ++ f) ++ (c ++ p) = simp append_assoc in
      ap (area 306 2) q ∙ area_middle (((n ++ d) ++ (k ∷ [])) ++ f) c p 306 2 four hc

  pub part_entries : drop 308 s ≡ p
  part_entries =
      let q : s ≡ ((((n ++ d) ++ (k ∷ [])) ++ f) ++ c) ++ p = simp append_assoc in
      ap (drop 308) q ∙ drop_at ((((n ++ d) ++ (k ∷ [])) ++ f) ++ c) p 308 (omega (arith, length-append (((n ++ d) ++ (k ∷ [])) ++ f) c, four))

  pub length_parts : length p ≡ 6912 → length s ≡ 7220
  length_parts e =
      omega (arith, length-append n (d ++ (k ∷ (f ++ (c ++ p)))), length-append d (k ∷ (f ++ (c ++ p))), length-append f (c ++ p), length-append c p)

pub parts : (s : List ℕ) → length s ≡ 7220
    → s ≡ six_parts (take 17 s) (area 17 16 s) (get_or s 33 0) (area 34 272 s) (area 306 2 s) (area 308 6912 s)
parts s e =
    sym (area_rest 0 7220 s (omega arith))
    ∙ area_add 0 17 7203 s
    ∙ ap₂ (λ (x y : List ℕ). x ++ y) (area_front 17 s)
    (area_add 17 16 7187 s
    ∙ ap (λ (l : List ℕ). area 17 16 s ++ l)
    (area_first 33 7186 s (omega arith)
    ∙ ap (λ (l : List ℕ). get_or s 33 0 ∷ l) (area_add 34 272 6914 s ∙ ap (λ (l : List ℕ). area 34 272 s ++ l) (area_add 306 2 6912 s))))
