-- The three kinds of integer: 0, a positive number, a minus and a positive number. Assumes nothing.
use mathlib.Core.Path.{◌≡◌, refl, ◌∙◌}
use mathlib.Core.List.{List, [], ◌∷◌}
use Rattle.std.proofs.Common.{Option, Some}
use Prim.Native.Nat.{ℕ, ◌-◌, ◌^◌, ◌≤◌, ◌<◌}
use native.Mathlib.Omega.{arith}
use lib.Dec.{leb}
use borrow.Author.Tests.{le-leb, leb-true, ne_eqb}
use Rattle.octets.specs.Compare.{same}
use Rattle.octets.proofs.Laws.{pick_by, pick_eq, needed, answered, same_true}
use Rattle.decimal.proofs.Natural.{digit, none_some}
use Rattle.decimal.specs.Integer.{pattern_of, signed_of, negative_of, unsigned_of, positive_of, up_to}

pub data Is (s : List ℕ) (p : ℕ) : Type 0 where
  nought : s ≡ 48 ∷ [] → p ≡ 0 → Is s p
  plus : positive_of s ≡ Some p → p < 2 ^ 63 → Is s p
  minus : (r : List ℕ) (n : ℕ) → s ≡ 45 ∷ r → p ≡ 2 ^ 64 - n → positive_of r ≡ Some n → n ≤ 2 ^ 63 → Is s p

up_to_lem : (most : ℕ) (o : Option ℕ) (n : ℕ) → up_to most o ≡ Some n → (o ≡ Some n) × (n ≤ most)
up_to_lem most o n e =
    answered o _ e (λ m q f. needed (leb m most) (Some m) f (λ t k. let i : m ≡ n = cc in (q ∙ k, omega (arith, leb-true m most t))))

negative : (r : List ℕ) (p : ℕ) → negative_of r ≡ Some p → Is (45 ∷ r) p
unfolding negative_of
negative r p e =
    answered (up_to (2 ^ 63) (positive_of r)) _ e (λ n q f. let u = up_to_lem (2 ^ 63) (positive_of r) n q in minus r n refl (cc) u.0 u.1)

signed : (s : List ℕ) (p : ℕ) → signed_of s ≡ Some p → Is s p
unfolding signed_of unsigned_of
signed [] p e = absurd (none_some e)
signed (b ∷ r) p e =
    pick_eq (λ (o : Option ℕ). o ≡ Some p → Is (b ∷ r) p) b 45 _ _ (λ q f. rw q (negative r p f))
    (λ q f. let u = up_to_lem (2 ^ 63 - 1) (positive_of (b ∷ r)) p f in plus u.0 (omega arith))
    e

pub is : (s : List ℕ) (p : ℕ) → pattern_of s ≡ Some p → Is s p
unfolding pattern_of
is s p e =
    pick_by (λ (o : Option ℕ). o ≡ Some p → Is s p) (same s (48 ∷ [])) _ _ (λ q f. nought (same_true s (48 ∷ []) q) (cc)) (λ q f. signed s p f) e

pub pattern : (s : List ℕ) (p : ℕ) → Is s p → pattern_of s ≡ Some p
unfolding pattern_of signed_of unsigned_of negative_of positive_of same
pattern s p (nought e q) = rw (e, q)
pattern s p (plus e k) = positive s e
  where
    positive : (s : List ℕ) → positive_of s ≡ Some p → pattern_of s ≡ Some p
    positive [] e = absurd (none_some e)
    positive (b ∷ r) e =
        let d = digit 49 b _ p e in
        simp (ne_eqb b 48 (λ q. omega arith), ne_eqb b 45 (λ q. omega arith), e, le-leb p (2 ^ 63 - 1) (omega arith))
pattern s p (minus r n e q f k) = simp (e, f, le-leb n (2 ^ 63) k, q)
