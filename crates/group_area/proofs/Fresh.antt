-- The region of a new group: its name and start ID, and zeros. Assumes nothing.
use mathlib.Core.Path.{◌≡◌, refl, sym, ap, ◌∙◌}
use mathlib.Core.List.{List, [], ◌∷◌, ◌++◌, append_assoc}
use Prim.Native.Nat.{ℕ, suc, ◌+◌, ◌-◌, ◌≤◌}
use native.Mathlib.Omega.{arith}
use lib.ListN.{length, set, length-replicate, replicate-append-replicate}
use Rattle.octets.specs.Bytes.{le, zeros}
use Rattle.octets.specs.Place.{put}
use Rattle.octets.proofs.Laws.{put_all, put_append, set_put, put_middle}
use Rattle.id.specs.declared.Id.{Id}
use Rattle.id.specs.Bytes.{id_bytes}
use Rattle.id.proofs.Laws.{length_id_bytes}
use Rattle.groups.specs.Bytes.{name_bytes, name_field, padded, all_name_fields, all_pending, region_bytes}
use Rattle.groups.specs.Step.{new_group}
use Rattle.groups.proofs.Laws.{length_field}

zeros_split : (m n : ℕ) → zeros (m + n) ≡ zeros m ++ zeros n
zeros_split m n = sym (replicate-append-replicate {A = ℕ} m n 0)

-- bytes put over zeros
over_zeros : (xs bs : List ℕ) (at n : ℕ) → length xs ≡ at → put (xs ++ zeros (length bs + n)) at bs ≡ xs ++ (bs ++ zeros n)
over_zeros xs bs at n e =
    ap (λ (l : List ℕ). put (xs ++ l) at bs) (zeros_split (length bs) n)
    ∙ put_middle xs (zeros (length bs)) (zeros n) bs at e (sym (length-replicate {A = ℕ} (length bs) 0))

module _ (n : List ℕ) (i : Id) (h : length n ≤ 16) where
  -- after the name and the ID: no consumers, no entries
  zeros_after : (k : ℕ) → k ≡ 7187 → zeros k ≡ 0 ∷ (padded 272 [] ++ (le 2 0 ++ padded 6912 []))
  unfolding le
  zeros_after k e =
      let q : k ≡ suc (272 + (2 + 6912)) = omega arith in
      ap zeros q ∙ ap (λ (l : List ℕ). 0 ∷ l) (zeros_split 272 (2 + 6912) ∙ ap (λ (l : List ℕ). zeros 272 ++ l) (zeros_split 2 6912))

  pub laid_new : put (put (zeros 7220) 0 (name_bytes n)) 17 (id_bytes i) ≡ region_bytes (new_group n i)
  unfolding region_bytes all_name_fields all_pending
  laid_new =
      let b : List ℕ = name_bytes n in
      let li = length_id_bytes i in
      let p : 7220 ≡ length b + (7220 - length b) = omega arith in
      let q : 7220 - length b ≡ (17 - length b) + (length (id_bytes i) + 7187) = omega arith in
      let z : List ℕ = zeros (length (id_bytes i) + 7187) in
      let field : put (zeros 7220) 0 b ≡ name_field n ++ z =
      ap (λ (k : ℕ). put (zeros k) 0 b) p
      ∙ over_zeros [] b 0 (7220 - length b) refl
      ∙ ap (λ (k : ℕ). b ++ zeros k) q
      ∙ ap (λ (l : List ℕ). b ++ l) (zeros_split (17 - length b) (length (id_bytes i) + 7187))
      ∙ sym (append_assoc b (zeros (17 - length b)) z) in
      ap (λ (l : List ℕ). put l 17 (id_bytes i)) field
      ∙ over_zeros (name_field n) (id_bytes i) 17 7187 (length_field n h)
      ∙ ap (λ (l : List ℕ). name_field n ++ (id_bytes i ++ l)) (zeros_after 7187 refl)

  -- the steps of the code
  pub new_region : (r : List ℕ) → length r ≡ 7220
      → put (put (set (put r 0 (zeros 7220)) 0 (length n)) 1 n) 17 (id_bytes i) ≡ region_bytes (new_group n i)
  new_region r l =
      let z : List ℕ = zeros 7220 in
      let lz : length z ≡ 7220 = length-replicate {A = ℕ} 7220 0 in
      ap (λ (s : List ℕ). put (put (set s 0 (length n)) 1 n) 17 (id_bytes i)) (put_all r z (lz ∙ sym l))
      ∙ ap (λ (s : List ℕ). put (put s 1 n) 17 (id_bytes i)) (set_put z 0 (length n) (omega arith))
      ∙ ap (λ (s : List ℕ). put s 17 (id_bytes i)) (put_append z 0 (length n ∷ []) n (omega arith))
      ∙ laid_new
