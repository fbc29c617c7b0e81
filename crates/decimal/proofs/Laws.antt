-- What the crate promises of patterns and texts: each is the other's inverse, and how long a text is. Assumes nothing.
use mathlib.Core.Path.{◌≡◌, refl, ap}
use mathlib.Core.List.{List, ◌∷◌}
use Rattle.std.proofs.Common.{Option, Some, None}
use Prim.Native.Nat.{ℕ, zero, suc, ◌-◌, ◌/◌, ◌^◌, ◌≤◌, ◌<◌}
use native.Mathlib.Omega.{arith}
use lib.ListN.{length}
use borrow.Author.Tests.{lt-ltb, le-ltb}
use Rattle.octets.specs.Bytes.{Bytes}
use Rattle.octets.proofs.Laws.{pick_lt, bytes_nil, bytes_cons, bytes_append}
use Rattle.decimal.proofs.Natural.{length_shorter}
use Rattle.decimal.proofs.Cases.{Is, nought, plus, minus, is, pattern}
use Rattle.decimal.specs.Integer.{pattern_of}
use Rattle.decimal.specs.Text.{text_of, natural_text, digits_of}
-- the state: a step at a place of a string, none past its end, and what it answers after the steps of a string
pub use Rattle.decimal.proofs.Steps.{turn, no_more, recognised}
-- numbers without a sign: each of text and number gives the other, and how long a text is
pub use Rattle.decimal.proofs.Natural.{digit, natural_one, natural_more, after_grows, positive_text, text_positive, length_natural}
-- what the answer of `recognise` says of the string
-- the text of a number without a sign, and with one
pub use Rattle.decimal.proofs.Writing.{text_plus, text_minus}

below : (s : List ℕ) (p : ℕ) → Is s p → p < 2 ^ 64
below s p (nought e q) = omega arith
below s p (plus e k) = omega arith
below s p (minus r n e q f k) = omega (arith, (positive_text r n f (omega arith)).0)

text : (s : List ℕ) (p : ℕ) → Is s p → text_of p ≡ s
unfolding text_of natural_text digits_of
text s p (nought e q) = rw (e, q)
text s p (plus e k) = simp lt-ltb (positive_text s p e (omega arith)).1
text s p (minus r n e q f k) =
    let t = positive_text r n f (omega arith) in
    let b : 2 ^ 64 - p ≡ n = omega arith in
    rw (e, le-ltb p (2 ^ 63) (omega arith), b) (ap (λ (l : List ℕ). 45 ∷ l) t.1)

pub pattern_below : (s : List ℕ) (p : ℕ) → pattern_of s ≡ Some p → p < 2 ^ 64
pattern_below s p e = below s p (is s p e)

pub text_of_pattern : (s : List ℕ) (p : ℕ) → pattern_of s ≡ Some p → text_of p ≡ s
text_of_pattern s p e = text s p (is s p e)

natural_is : (p : ℕ) → p < 2 ^ 63 → Is (natural_text p) p
unfolding natural_text digits_of
natural_is zero h = nought refl refl
natural_is (suc p) h = plus (text_positive (suc p) (omega arith) (omega arith)) h

text_is : (p : ℕ) → p < 2 ^ 64 → Is (text_of p) p
unfolding text_of
text_is p h =
    pick_lt (λ (t : List ℕ). Is t p) p (2 ^ 63) _ _ (natural_is p)
    (λ k. minus (natural_text (2 ^ 64 - p)) (2 ^ 64 - p) refl (omega arith) (text_positive (2 ^ 64 - p) (omega arith) (omega arith)) (omega arith))

pub pattern_of_text : (p : ℕ) → p < 2 ^ 64 → pattern_of (text_of p) ≡ Some p
pattern_of_text p h = pattern (text_of p) p (text_is p h)

pub text_length : (p : ℕ) → (1 ≤ length (text_of p)) × (length (text_of p) ≤ 20)
unfolding text_of
text_length p =
    pick_lt (λ (l : List ℕ). (1 ≤ length l) × (length l ≤ 20)) p (2 ^ 63) _ _ (λ k. length_natural p)
    (λ k. (omega arith, omega (arith, length_shorter (2 ^ 64 - p) (omega arith))))

digits_bytes : (m n : ℕ) → Bytes (digits_of m n)
unfolding digits_of
digits_bytes zero n = bytes_nil
digits_bytes (suc m) n =
    pick_lt Bytes n 10 _ _ (λ h. bytes_cons (omega arith) bytes_nil) (λ h. bytes_append (digits_bytes m (n / 10)) (bytes_cons (omega arith) bytes_nil))

pub text_bytes : (p : ℕ) → Bytes (text_of p)
unfolding text_of natural_text
text_bytes p =
    pick_lt Bytes p (2 ^ 63) _ _ (λ h. digits_bytes 20 p) (λ h. bytes_cons (omega arith) (digits_bytes 20 (2 ^ 64 - p)))

pub pattern_long : (s : List ℕ) → 20 < length s → pattern_of s ≡ None
pattern_long s h = by (pattern_of s) refl
  where
    by : (o : Option ℕ) → pattern_of s ≡ o → o ≡ None
    by None e = refl
    by (Some p) e = absurd (omega (arith, text_length p, ap length (text_of_pattern s p e)))
