-- One turn of each loop over the rows of a table. Assumes nothing.
use mathlib.Core.Path.{◌≡◌, ap, ◌∙◌}
use mathlib.Core.List.{List, [], ◌∷◌}
use Prim.Native.Nat.{ℕ, suc, ◌+◌, ◌*◌, ◌-◌, ◌≤◌, ◌<◌}
use native.Mathlib.Omega.{arith}
use borrow.Author.Tests.{eq-eqb, ne_eqb}
use lib.ListN.{length, get_or}
use lib.Seq.{drop-cons}
use Rattle.octets.specs.Place.{area}
use Rattle.octets.proofs.Laws.{area_none}
use Rattle.radix.specs.Shape.{common}
use Rattle.radix.specs.Rows.{alike_at}
use Rattle.radix.proofs.Under.{common_nil}

pub area_next : (a : List ℕ) (at n j : ℕ) → at + n ≤ length a → j < n → area (at + j) (n - j) a ≡ get_or a (at + j) 0 ∷ area (at + (j + 1)) (n - (j + 1)) a
unfolding area
area_next a at n j h m =
    let e : at + (j + 1) ≡ suc (at + j) = omega arith in
    let f : n - j ≡ suc (n - (j + 1)) = omega arith in
    let l : at + j < length a = omega arith in
    rw (f, e, drop-cons a (at + j) 0 l)

area_empty : (a : List ℕ) (at n : ℕ) → n ≡ 0 → area at n a ≡ []
area_empty a at n e = ap (λ (m : ℕ). area at m a) e ∙ area_none at a

-- bytes that two rows share
module _ (a : List ℕ) (p m q k j : ℕ) (h : p + m ≤ length a) (g : q + k ≤ length a) where
  left : ℕ
  left = length (common (area (p + j) (m - j) a) (area (q + j) (k - j) a))

  pub share_short : k ≤ j → j ≡ j + length (common (area (p + j) (m - j) a) (area (q + j) (k - j) a))
  share_short l = rw (area_empty a (q + j) (k - j) (omega arith), common_nil) (omega arith)

  pub share_end : m ≤ j → j ≡ j + length (common (area (p + j) (m - j) a) (area (q + j) (k - j) a))
  unfolding common
  share_end l = rw (area_empty a (p + j) (m - j) (omega arith)) (omega arith)

  module _ (u : j < m) (w : j < k) where
    pub share_stop : (get_or a (p + j) 0 ≡ get_or a (q + j) 0 → ⊥) → j ≡ j + length (common (area (p + j) (m - j) a) (area (q + j) (k - j) a))
    unfolding common
    share_stop e = rw (area_next a p m j h u, area_next a q k j g w, ne_eqb _ _ e) (omega arith)

    pub share_next : get_or a (p + j) 0 ≡ get_or a (q + j) 0
        → j + 1 + length (common (area (p + (j + 1)) (m - (j + 1)) a) (area (q + (j + 1)) (k - (j + 1)) a))
        ≡ j + length (common (area (p + j) (m - j) a) (area (q + j) (k - j) a))
    unfolding common
    share_next e = rw (area_next a p m j h u, area_next a q k j g w, eq-eqb _ _ e) (omega arith)

-- rows that start alike
module _ (a : List ℕ) (d c i n : ℕ) where
  pub alike_stop : 0 < n → (get_or a (16 * i + d) 0 ≡ c → ⊥) → i ≡ i + alike_at a d c i n
  unfolding alike_at
  alike_stop m e = let f : n ≡ suc (n - 1) = omega arith in rw (f, ne_eqb _ _ e) (omega arith)

  pub alike_next : 0 < n → get_or a (16 * i + d) 0 ≡ c → i + 1 + alike_at a d c (i + 1) (n - 1) ≡ i + alike_at a d c i n
  unfolding alike_at
  alike_next m e =
      let f : n ≡ suc (n - 1) = omega arith in
      let t : alike_at a d c i n ≡ suc (alike_at a d c (i + 1) (n - 1)) = ap (alike_at a d c i) f ∙ rw (eq-eqb _ _ e) in
      omega arith

  pub alike_end : n ≡ 0 → i ≡ i + alike_at a d c i n
  unfolding alike_at
  alike_end e = rw e (omega arith)
