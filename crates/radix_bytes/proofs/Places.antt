-- The fields of a place of the pool, where they stand in the bytes. Assumes nothing.
use mathlib.Core.Path.{◌≡◌, refl, sym, ap, ◌∙◌}
use mathlib.Core.List.{List}
use Prim.Native.Nat.{ℕ, zero, suc, ◌+◌, ◌*◌, ◌<◌, ◌≤◌}
use native.Mathlib.Omega.{arith}
use lib.ListN.{length, get_or}
use lib.Seq.{drop-cons}
use Rattle.octets.specs.Bytes.{le_value}
use Rattle.octets.specs.Place.{area}
use Rattle.octets.proofs.Laws.{get_d_area, area_area, length_area}
use Rattle.radix.specs.Shape.{first_byte}
use Rattle.radix.specs.Record.{label_of}
use Rattle.keys.specs.Entries.{length_of}
use Rattle.radix_bytes.specs.Bytes.{words_at, record_from, pool_in}

words_get : (w : ℕ) (s : List ℕ) (at n i : ℕ) → i < n → get_or (words_at w s at n) i 0 ≡ le_value (area (at + w * i) w s)
unfolding words_at
words_get w s at zero i h = absurd (omega arith)
words_get w s at (suc n) zero h = let e : at ≡ at + w * 0 = omega arith in ap (λ (k : ℕ). le_value (area k w s)) e
words_get w s at (suc n) (suc i) h =
    let e : at + w + w * i ≡ at + w * suc i = omega arith in
    words_get w s (at + w) n i (omega arith) ∙ ap (λ (k : ℕ). le_value (area k w s)) e

module _ (s : List ℕ) (p : ℕ) (h : p < 256) where
  pub len_of : get_or s (2 + p) 0 ≡ get_or (pool_in s).len p 0
  unfolding record_from
  len_of = sym (get_d_area 2 256 s p h)

  pub key_of : get_or s (258 + p) 0 ≡ get_or (pool_in s).key p 0
  unfolding record_from
  key_of = sym (get_d_area 258 256 s p h)

  pub child_of : le_value (area (514 + 2 * p) 2 s) ≡ get_or (pool_in s).child p 0
  unfolding record_from
  child_of = sym (words_get 2 s 514 256 p h)

  pub next_of : le_value (area (1026 + 2 * p) 2 s) ≡ get_or (pool_in s).next p 0
  unfolding record_from
  next_of = sym (words_get 2 s 1026 256 p h)

  pub value_of : le_value (area (1538 + 4 * p) 4 s) ≡ get_or (pool_in s).val p 0
  unfolding record_from
  value_of = sym (words_get 4 s 1538 256 p h)

  -- the m bytes from byte i of the label on
  pub label_of_lem : (i m : ℕ) → i + m ≤ 16 → area (16 * p + i) m (pool_in s).label ≡ area (2562 + (16 * p + i)) m s
  unfolding record_from
  label_of_lem i m l = area_area 2562 4096 s (16 * p + i) m (omega arith)

pub label_in : (s : List ℕ) (p n : ℕ) → p < 256 → n ≤ 16 → area (2562 + 16 * p) n s ≡ area (16 * p) n (pool_in s).label
label_in s p n h k =
    let f : 2562 + 16 * p ≡ 2562 + (16 * p + 0) = omega arith in
    let g : 16 * p + 0 ≡ 16 * p = omega arith in
    ap (λ (i : ℕ). area i n s) f ∙ sym (label_of_lem s p h 0 n (omega arith)) ∙ ap (λ (i : ℕ). area i n (pool_in s).label) g

pub root_of : (s : List ℕ) → le_value (area 0 2 s) ≡ (record_from s).root
unfolding record_from
root_of s = refl

pub label_size : (s : List ℕ) → length s ≡ 6658 → length (pool_in s).label ≡ 4096
unfolding record_from
label_size s l = length_area 2562 4096 s (omega arith)

-- the first byte of a label of n bytes
pub first_none : (s : List ℕ) (p n : ℕ) → n ≡ length_of (pool_in s).len p → n ≡ 0 → 0 ≡ first_byte (label_of (pool_in s) p)
unfolding area
first_none s p n e z = rw (← e, z)

module _ (s : List ℕ) (p : ℕ) (h : p < 256) where
  at_label : get_or s (2562 + 16 * p) 0 ≡ get_or (pool_in s).label (16 * p) 0
  unfolding record_from
  at_label = sym (get_d_area 2562 4096 s (16 * p) (omega arith))

  label_head : (n : ℕ) → 16 * p < length (pool_in s).label → get_or (pool_in s).label (16 * p) 0 ≡ first_byte (area (16 * p) (suc n) (pool_in s).label)
  unfolding area
  label_head n i = rw (drop-cons (pool_in s).label (16 * p) 0 i)

  pub first_some : (n : ℕ) → length s ≡ 6658 → n ≡ length_of (pool_in s).len p → (n ≡ 0 → ⊥) → get_or s (2562 + 16 * p) 0 ≡ first_byte (label_of (pool_in s) p)
  first_some zero l e z = absurd (z refl)
  first_some (suc n) l e z = at_label ∙ rw (← e) (label_head n (omega (arith, label_size s l)))
