-- Places without a mark, one after the other and all at once. Assumes nothing.
use mathlib.Core.Bool.{Bool, true, false}
use mathlib.Core.Path.{◌≡◌, refl, sym, ap, ap₂, ◌∙◌}
use mathlib.Core.List.{List}
use Prim.Native.Nat.{ℕ, zero, suc, ◌+◌, ◌*◌, ◌-◌, ◌≤◌, ◌<◌}
use native.Mathlib.Nat.{add-zero}
use native.Mathlib.Omega.{arith}
use borrow.Author.Tests.{eq-eqb, ne_eqb}
use lib.Dec.{eqb}
use lib.ListN.{length, get_or, get_or-replicate, replicate, take, drop}
use Rattle.octets.specs.Pick.{pick}
use Rattle.octets.specs.Bytes.{Bytes, le, le_value, zeros}
use Rattle.octets.specs.Place.{area}
use Rattle.octets.specs.Compare.{all_zero}
use Rattle.octets.proofs.Laws.{pick_same, both_of, both_true, zero_all, all_zero_lem, value_le_zeros, le_value_lem, bytes_area, length_area, get_d_area, area_area, area_zeros}
use Rattle.radix.proofs.Laws.{zero_part as part_is}
use Rattle.radix.specs.Record.{Nodes, is_free}
use Rattle.radix_bytes.specs.Bytes.{children_at, keys_at, labels_at, nexts_at, record_size, values_at, pool_in}
use Rattle.radix_bytes.proofs.Laws.{len_of, key_of, child_of, next_of, value_of, label_of_lem}
use Rattle.radix_judge.specs.Visit.{are_free, zero_from}

-- one after the other
module _ (x : Nodes) (m : List ℕ) (p : ℕ) (b : Bool) (h : p < 256) (e : b ≡ pick (eqb (get_or m p 0) 0) (is_free x p) true) where
  left : 256 - p ≡ suc (256 - (p + 1))
  left = omega arith

  pub free_stop : b ≡ false → false ≡ are_free x m p (256 - p)
  unfolding are_free
  free_stop z = rw (left, ← e, z)

  pub free_go : b ≡ true → are_free x m (p + 1) (256 - (p + 1)) ≡ are_free x m p (256 - p)
  unfolding are_free
  free_go z = rw (left, ← e, z)

pub free_end : (x : Nodes) (m : List ℕ) (p n : ℕ) → n ≡ 0 → true ≡ are_free x m p n
unfolding are_free
free_end x m p n e = rw e

-- a place with a mark
pub free_marked : (x : Nodes) (m : List ℕ) (p : ℕ) → (get_or m p 0 ≡ 0 → ⊥) → true ≡ pick (eqb (get_or m p 0) 0) (is_free x p) true
free_marked x m p z = rw (ne_eqb _ _ z)

-- a word of 8 marks
free_run : (x : Nodes) (m : List ℕ) (p k : ℕ) → p + k ≤ 256 → ((i : ℕ) → i < k → get_or m (p + i) 0 ≡ 0 → ⊥) → are_free x m (p + k) (256 - (p + k)) ≡ are_free x m p (256 - p)
free_run x m p zero h f = ap (λ (j : ℕ). are_free x m j (256 - j)) (add-zero p)
free_run x m p (suc k) h f =
    let e : p + suc k ≡ p + k + 1 = omega arith in
    ap (λ (j : ℕ). are_free x m j (256 - j)) e
    ∙ free_go x m (p + k) _ (omega arith) (free_marked x m (p + k) (f k (omega arith))) refl
    ∙ free_run x m p k (omega arith) (λ i l. f i (omega arith))

ones : le 8 72340172838076673 ≡ replicate 8 1
unfolding le
ones = refl

pub free_word : (x : Nodes) (m : List ℕ) (p : ℕ) → Bytes m → p + 8 ≤ length m → p + 8 ≤ 256 → le_value (area p 8 m) ≡ 72340172838076673
    → are_free x m (p + 8) (256 - (p + 8)) ≡ are_free x m p (256 - p)
free_word x m p b l h v =
    let w : replicate 8 1 ≡ area p 8 m =
    sym ones ∙ ap₂ le (sym (length_area p 8 m l)) (sym v) ∙ le_value_lem (area p 8 m) (bytes_area p 8 b) in
    free_run x m p 8 h (λ i k z.
    let q : ◌≡◌ {A = ℕ} 1 0 = sym (get_or-replicate 8 i 1 0 k) ∙ ap (λ (y : List ℕ). get_or y i 0) w ∙ get_d_area p 8 m i k ∙ z in
    omega arith)

free_all : (x : Nodes) (m : List ℕ) (p n : ℕ) → ((q : ℕ) → p ≤ q → q < p + n → is_free x q ≡ true) → are_free x m p n ≡ true
unfolding are_free
free_all x m p zero h = refl
free_all x m p (suc n) h =
    both_of (ap (λ (b : Bool). pick (eqb (get_or m p 0) 0) b true) (h p (omega arith) (omega arith)) ∙ pick_same (eqb (get_or m p 0) 0) true)
    (free_all x m (p + 1) n (λ q a b. h q (omega arith) (omega arith)))

-- all at once: what lies in bytes that are all zero
module _ (s : List ℕ) (at n : ℕ) (z : all_zero (area at n s) ≡ true) (l : at + n ≤ length s) where
  zero_part : (a m : ℕ) → at ≤ a → a + m ≤ at + n → area a m s ≡ zeros m
  zero_part a m h k =
      let i : a ≡ at + (a - at) = omega arith in
      ap (λ (j : ℕ). area j m s) i
      ∙ sym (area_area at n s (a - at) m (omega arith))
      ∙ ap (area (a - at) m) (all_zero_lem (area at n s) z ∙ ap zeros (length_area at n s l))
      ∙ area_zeros (a - at) m n (omega arith)

  zero_byte : (a : ℕ) → at ≤ a → a < at + n → get_or s a 0 ≡ 0
  zero_byte a h k =
      let i : a ≡ a + 0 = omega arith in
      ap (λ (j : ℕ). get_or s j 0) i ∙ sym (get_d_area a 1 s 0 (omega arith)) ∙ ap (λ (r : List ℕ). get_or r 0 0) (zero_part a 1 h (omega arith))

  zero_word : (w a : ℕ) → at ≤ a → a + w ≤ at + n → le_value (area a w s) ≡ 0
  zero_word w a h k = ap le_value (zero_part a w h k) ∙ value_le_zeros w

zero_free : (s : List ℕ) (p q : ℕ) → length s ≡ record_size → zero_from s p ≡ true → p ≤ q → q < 256 → is_free (pool_in s) q ≡ true
unfolding zero_from is_free
zero_free s p q l z h k =
    let a = both_true (all_zero (area (labels_at + 16 * p) (4096 - 16 * p) s)) _ z in
    let b = both_true (all_zero (area (values_at + 4 * p) (1024 - 4 * p) s)) _ a.1 in
    let c = both_true (all_zero (area (nexts_at + 2 * p) (512 - 2 * p) s)) _ b.1 in
    let d = both_true (all_zero (area (children_at + 2 * p) (512 - 2 * p) s)) _ c.1 in
    let e = both_true (all_zero (area (keys_at + p) (256 - p) s)) _ d.1 in
    let g : 16 * q ≡ 16 * q + 0 = omega arith in
    both_of (eq-eqb _ _ (sym (len_of s q k) ∙ zero_byte s (2 + p) (256 - p) e.1 (omega arith) (2 + q) (omega arith) (omega arith)))
    (both_of (eq-eqb _ _ (sym (key_of s q k) ∙ zero_byte s (keys_at + p) (256 - p) e.0 (omega arith) (keys_at + q) (omega arith) (omega arith)))
    (both_of (eq-eqb _ _ (sym (child_of s q k) ∙ zero_word s (children_at + 2 * p) (512 - 2 * p) d.0 (omega arith) 2 (children_at + 2 * q) (omega arith) (omega arith)))
    (both_of (eq-eqb _ _ (sym (next_of s q k) ∙ zero_word s (nexts_at + 2 * p) (512 - 2 * p) c.0 (omega arith) 2 (nexts_at + 2 * q) (omega arith) (omega arith)))
    (both_of (eq-eqb _ _ (sym (value_of s q k) ∙ zero_word s (values_at + 4 * p) (1024 - 4 * p) b.0 (omega arith) 4 (values_at + 4 * q) (omega arith) (omega arith)))
    (ap all_zero (ap (λ (i : ℕ). area i 16 (pool_in s).label) g ∙ label_of_lem s q k 0 16 (omega arith) ∙ zero_part s (labels_at + 16 * p) (4096 - 16 * p) a.0 (omega arith) (labels_at + (16 * q + 0)) 16 (omega arith) (omega arith)) ∙ zero_all 16)))))

pub rest_zero_lem : (s m : List ℕ) (p : ℕ) → length s ≡ record_size → p ≤ 256 → zero_from s p ≡ true → are_free (pool_in s) m p (256 - p) ≡ true
rest_zero_lem s m p l h z = free_all (pool_in s) m p (256 - p) (λ q a b. zero_free s p q l z a (omega arith))

-- the fields in the order of the test; each is a part of the bytes
module _ (s : List ℕ) (p : ℕ) (h : p ≤ 256) where
  module _ (t1 : Bool) (e1 : t1 ≡ all_zero (take (record_size - (labels_at + 16 * p)) (drop (labels_at + 16 * p) s))) where
    field_1 : t1 ≡ all_zero (area (labels_at + 16 * p) (4096 - 16 * p) s)
    field_1 = e1 ∙ part_is s (labels_at + 16 * p) (record_size - (labels_at + 16 * p)) (4096 - 16 * p) (omega arith)

    pub zero_1 : t1 ≡ false → false ≡ zero_from s p
    unfolding zero_from
    zero_1 z = rw (← field_1, z)

    module _ (y1 : t1 ≡ true) where
      module _ (t2 : Bool) (e2 : t2 ≡ all_zero (take (labels_at - (values_at + 4 * p)) (drop (values_at + 4 * p) s))) where
        field_2 : t2 ≡ all_zero (area (values_at + 4 * p) (1024 - 4 * p) s)
        field_2 = e2 ∙ part_is s (values_at + 4 * p) (labels_at - (values_at + 4 * p)) (1024 - 4 * p) (omega arith)

        pub zero_2 : t2 ≡ false → false ≡ zero_from s p
        unfolding zero_from
        zero_2 z = rw (← field_1, y1, ← field_2, z)

        module _ (y2 : t2 ≡ true) where
          module _ (t3 : Bool) (e3 : t3 ≡ all_zero (take (values_at - (nexts_at + 2 * p)) (drop (nexts_at + 2 * p) s))) where
            field_3 : t3 ≡ all_zero (area (nexts_at + 2 * p) (512 - 2 * p) s)
            field_3 = e3 ∙ part_is s (nexts_at + 2 * p) (values_at - (nexts_at + 2 * p)) (512 - 2 * p) (omega arith)

            pub zero_3 : t3 ≡ false → false ≡ zero_from s p
            unfolding zero_from
            zero_3 z = rw (← field_1, y1, ← field_2, y2, ← field_3, z)

            module _ (y3 : t3 ≡ true) where
              module _ (t4 : Bool) (e4 : t4 ≡ all_zero (take (nexts_at - (children_at + 2 * p)) (drop (children_at + 2 * p) s))) where
                field_4 : t4 ≡ all_zero (area (children_at + 2 * p) (512 - 2 * p) s)
                field_4 = e4 ∙ part_is s (children_at + 2 * p) (nexts_at - (children_at + 2 * p)) (512 - 2 * p) (omega arith)

                pub zero_4 : t4 ≡ false → false ≡ zero_from s p
                unfolding zero_from
                zero_4 z = rw (← field_1, y1, ← field_2, y2, ← field_3, y3, ← field_4, z)

                module _ (y4 : t4 ≡ true) where
                  module _ (t5 : Bool) (e5 : t5 ≡ all_zero (take (children_at - (keys_at + p)) (drop (keys_at + p) s))) where
                    field_5 : t5 ≡ all_zero (area (keys_at + p) (256 - p) s)
                    field_5 = e5 ∙ part_is s (keys_at + p) (children_at - (keys_at + p)) (256 - p) (omega arith)

                    pub zero_5 : t5 ≡ false → false ≡ zero_from s p
                    unfolding zero_from
                    zero_5 z = rw (← field_1, y1, ← field_2, y2, ← field_3, y3, ← field_4, y4, ← field_5, z)

                    module _ (y5 : t5 ≡ true) where
                      pub zero_6 : (t6 : Bool) → t6 ≡ all_zero (take (keys_at - (2 + p)) (drop (2 + p) s)) → t6 ≡ zero_from s p
                      unfolding zero_from
                      zero_6 t6 e = rw (← field_1, y1, ← field_2, y2, ← field_3, y3, ← field_4, y4, ← field_5, y5) (e ∙ part_is s (2 + p) (keys_at - (2 + p)) (256 - p) (omega arith))
