-- A whole listpack: parse_listpack and listpack are inverse. Assumes nothing.
use mathlib.Core.Path.{◌≡◌, refl, sym, ap, ap₂, ◌∙◌, subst}
use mathlib.Core.List.{List, [], ◌∷◌, ◌++◌, append_assoc}
use Rattle.std.proofs.Common.{Some}
use Rattle.octets.proofs.Options.{some_injective}
use Prim.Native.Nat.{ℕ, ◌+◌, ◌^◌, ◌≤◌, ◌<◌}
use native.Mathlib.Omega.{arith}
use lib.Dec.{leb}
use lib.ListN.{length, drop, length-append, length-drop}
use lib.Seq.{drop_at}
use borrow.Author.Tests.{le-leb, eq-eqb, leb-true, eqb-true}
use Rattle.octets.specs.Bytes.{Bytes, le, le_value}
use Rattle.octets.specs.Place.{area}
use Rattle.octets.specs.Compare.{same}
use Rattle.octets.proofs.Laws.{bytes_drop, bytes_area, area_front, area_middle, area_split, length_area, length_le, value_le, le_value_lem, value_le_lt, same_refl, same_true, both_true}
use Rattle.listpack.specs.Listpack.{elements, header, listpack}
use Rattle.listpack.specs.Read.{Walked, parse_many, parse_listpack}
use Rattle.listpack.proofs.Walk.{bound, needed}
use Rattle.listpack.proofs.Many.{Short, Each, ManyExact, many_accepts, many_exact}

-- what stands after a header
module _ (total count : ℕ) (t : List ℕ) where
  pub header_total : area 0 4 (header total count ++ t) ≡ le 4 total
  unfolding header
  header_total = ap (area 0 4) (append_assoc (le 4 total) (le 2 count) t) ∙ area_middle [] (le 4 total) _ 0 4 refl (length_le 4 total)

  pub header_count : area 4 2 (header total count ++ t) ≡ le 2 count
  unfolding header
  header_count = ap (area 4 2) (append_assoc (le 4 total) (le 2 count) t) ∙ area_middle (le 4 total) (le 2 count) t 4 2 (length_le 4 total) (length_le 2 count)

  pub header_length : length (header total count) ≡ 6
  unfolding header
  header_length = length-append (le 4 total) (le 2 count) ∙ ap₂ (λ (x y : ℕ). x + y) (length_le 4 total) (length_le 2 count)

  pub header_rest : drop 6 (header total count ++ t) ≡ t
  header_rest = drop_at (header total count) t 6 header_length

-- a list that starts with a header's six bytes
pub header_split : (s : List ℕ) → Bytes s → 6 ≤ length s → header (le_value (area 0 4 s)) (le_value (area 4 2 s)) ++ drop 6 s ≡ s
unfolding header
header_split s b h =
    ap (λ (l : List ℕ). l ++ drop 6 s) (ap₂ (λ (x y : List ℕ). x ++ y) (field 0 4 (omega arith)) (field 4 2 (omega arith)))
    ∙ append_assoc (area 0 4 s) (area 4 2 s) (drop 6 s)
    ∙ ap (λ (l : List ℕ). l ++ (area 4 2 s ++ drop 6 s)) (area_front 4 s)
    ∙ area_split 4 2 s
  where
    field : (at w : ℕ) → at + w ≤ length s → le w (le_value (area at w s)) ≡ area at w s
    field at w k =
        ap (λ (j : ℕ). le j (le_value (area at w s))) (sym (length_area at w s k)) ∙ le_value_lem (area at w s) (bytes_area at w b)

pub length_listpack : (xs : List (List ℕ)) → length (listpack xs) ≡ 7 + length (elements xs)
unfolding listpack
length_listpack xs =
    omega (arith, length-append (header (7 + length (elements xs)) (length xs)) (elements xs ++ (255 ∷ [])), header_length (7 + length (elements xs)) (length xs) [], length-append (elements xs) (255 ∷ []))

pub whole_accepts : (xs : List (List ℕ)) → Each Short xs → length xs < 2 ^ 16 → length (listpack xs) < 2 ^ 32 → parse_listpack (listpack xs) ≡ Some xs
unfolding parse_listpack listpack
whole_accepts xs h count total =
    let n : ℕ = 7 + length (elements xs) in
    let t : List ℕ = elements xs ++ (255 ∷ []) in
    let e : length (listpack xs) ≡ n = length_listpack xs in
    let a : le_value (area 0 4 (listpack xs)) ≡ n = ap le_value (header_total n (length xs) t) ∙ value_le 4 n (omega arith) in
    let b : le_value (area 4 2 (listpack xs)) ≡ length xs = ap le_value (header_count n (length xs) t) ∙ value_le 2 (length xs) count in
    let d : drop 6 (listpack xs) ≡ t = header_rest n (length xs) t in
    simp (le-leb 7 (length (listpack xs)) (omega arith), eq-eqb (le_value (area 0 4 (listpack xs))) (length (listpack xs)) (omega arith), b, d, many_accepts xs (255 ∷ []) h, same_refl (255 ∷ []))

pub record WholeExact (s : List ℕ) (xs : List (List ℕ)) : Type 0 where
  pub bytes : s ≡ listpack xs
  pub count : length xs < 2 ^ 16
  pub total : length s < 2 ^ 32
  pub short : Each Short xs
  pub string_bytes : Each Bytes xs

as_listpack : (s : List ℕ) (w : Walked) → Bytes s → 7 ≤ length s → le_value (area 0 4 s) ≡ length s → ManyExact (le_value (area 4 2 s)) (drop 6 s) w
    → w.rest ≡ 255 ∷ [] → WholeExact s w.strings
unfolding listpack
as_listpack s w b seven total k rest =
    let xs : List (List ℕ) = w.strings in
    let d : drop 6 s ≡ elements xs ++ (255 ∷ []) = k.bytes ∙ ap (λ (l : List ℕ). elements xs ++ l) rest in
    let n : length s ≡ 7 + length (elements xs) = omega (arith, length-drop 6 s, ap length d, length-append (elements xs) (255 ∷ [])) in
    let four : length (area 0 4 s) ≡ 4 = length_area 0 4 s (omega arith) in
    let two : length (area 4 2 s) ≡ 2 = length_area 4 2 s (omega arith) in
    record {
      bytes =
          sym (header_split s b (omega arith))
          ∙ ap₂ (λ (x y : ℕ). header x y ++ drop 6 s) (total ∙ n) (sym k.count)
          ∙ ap (λ (l : List ℕ). header (7 + length (elements xs)) (length xs) ++ l) d;
      count = omega (arith, rw two at (value_le_lt (area 4 2 s) (bytes_area 4 2 b)));
      total = omega (arith, rw four at (value_le_lt (area 0 4 s) (bytes_area 0 4 b)));
      short = k.short;
      string_bytes = k.string_bytes;
    }

pub whole_exact : (s : List ℕ) (xs : List (List ℕ)) → Bytes s → parse_listpack s ≡ Some xs → WholeExact s xs
unfolding parse_listpack
whole_exact s xs b e =
    let h = needed _ _ xs e in
    let two = both_true (leb 7 (length s)) _ h.0 in
    let p = bound (parse_many (le_value (area 4 2 s)) (drop 6 s)) _ xs h.1 in
    let w : Walked = p.value in
    let n = needed (same w.rest (255 ∷ [])) (Some w.strings) xs p.goes_on in
    subst (WholeExact s) (some_injective _ _ n.1)
    (as_listpack s w b (leb-true _ _ two.0) (eqb-true _ _ two.1) (many_exact (le_value (area 4 2 s)) (drop 6 s) w (bytes_drop 6 b) p.is) (same_true _ _ n.0))
