-- The state answers for the bytes so far: every step keeps what these can still become by the definitions of Integer. Assumes nothing.
use mathlib.Core.Path.{◌≡◌, refl, sym, ap, ◌∙◌}
use mathlib.Core.Bool.{Bool, true, false}
use mathlib.Core.List.{List, [], ◌∷◌}
use Rattle.std.proofs.Common.{Option, Some, None}
use Prim.Native.Nat.{ℕ, ◌+◌, ◌-◌, ◌*◌, ◌^◌, ◌≤◌, ◌<◌}
use native.Mathlib.Nat.{zero-add}
use native.Mathlib.Omega.{arith}
use lib.Dec.{leb, ltb}
use lib.ListN.{length, get_or, drop, drop_of_length-le}
use borrow.Author.Tests.{le-leb, lt-leb, ne_eqb, ltb-false}
use Rattle.octets.specs.Compare.{same}
use Rattle.octets.specs.Maybe.{◌>>=◌, ◌>>◌, need}
use Rattle.octets.specs.Pick.{pick, both}
use Rattle.octets.proofs.Laws.{pick_eq, cut}
use Rattle.decimal.specs.Integer.{digits_after, positive_of, up_to, unsigned_of, negative_of, signed_of, pattern_of}
use Rattle.decimal.specs.Steps.{is_digit_from, grown, stepped, after, signed, so_far}
use Rattle.decimal.specs.declared.recognition.Prefix.{Prefix}
use Rattle.decimal.specs.declared.recognition.Prefix.TheVariants.{Empty, Minus, Number, Failed}
use Rattle.decimal.proofs.Natural.{digit, after_grows}

-- the pattern of the bytes so far and a string after them
abbrev completes : Prefix → List ℕ → Option ℕ
completes Empty s = pattern_of s
completes Minus s = negative_of s
completes (Number negative false n) s = digits_after n s >>= signed negative
completes (Number negative true n) [] = signed negative n
completes (Number negative true n) (b ∷ s) = None
completes Failed s = None

-- out of range for good
passed : (negative : Bool) (n : ℕ) (s : List ℕ) → 2 ^ 63 < n → (digits_after n s >>= signed negative) ≡ None
unfolding signed
passed negative n s h = by negative (digits_after n s) refl
  where
    by : (t : Bool) (o : Option ℕ) → digits_after n s ≡ o → (o >>= signed t) ≡ None
    by t None e = refl
    by false (Some m) e = simp (lt-leb m (2 ^ 63 - 1) (omega (arith, after_grows m n s e)))
    by true (Some m) e = let g = after_grows m n s e in simp (le-leb 1 m (omega arith), lt-leb m (2 ^ 63) (omega arith))

module _ (negative : Bool) (n low b : ℕ) (s : List ℕ) where
  longer : (need (is_digit_from low b) >> digits_after (10 * n + (b - 48)) s >>= signed negative) ≡ completes (grown negative false n low b) s
  unfolding grown
  longer = by (ltb n (10 ^ 18)) (is_digit_from low b) refl
    where
      by : (t u : Bool) → ltb n (10 ^ 18) ≡ t → (need u >> digits_after (10 * n + (b - 48)) s >>= signed negative) ≡ completes (pick (both t u) (Number negative false (10 * n + (b - 48))) Failed) s
      by true true e = refl
      by false true e = passed negative (10 * n + (b - 48)) s (omega (arith, ltb-false n (10 ^ 18) e))
      by true false e = refl
      by false false e = refl

zero_first : (s : List ℕ) → pattern_of (48 ∷ s) ≡ completes (Number false true 0) s
unfolding pattern_of signed_of unsigned_of positive_of same signed
zero_first [] = refl
zero_first (b ∷ s) = refl

-- after a minus the number is at least 1
negated : (o : Option ℕ) → ((m : ℕ) → o ≡ Some m → 1 ≤ m) → (up_to (2 ^ 63) o >>= λ n. Some (2 ^ 64 - n)) ≡ (o >>= signed true)
unfolding signed
negated None h = refl
negated (Some m) h = simp (le-leb 1 m (h m refl)) (by (leb m (2 ^ 63)))
  where
    by : (t : Bool) → (need t >> Some m >>= λ n. Some (2 ^ 64 - n)) ≡ (need t >> Some (2 ^ 64 - m))
    by true = refl
    by false = refl

-- a digit 1-9, after a minus or not
leading : (negative : Bool) (b : ℕ) (s : List ℕ) → (positive_of (b ∷ s) >>= signed negative) ≡ completes (grown negative false 0 49 b) s
unfolding positive_of
leading negative b s = rw zero-add at (longer negative 0 49 b s)

one : (p : Prefix) (b : ℕ) (s : List ℕ) → completes p (b ∷ s) ≡ completes (stepped p b) s
unfolding pattern_of signed_of unsigned_of negative_of positive_of digits_after same signed grown
one Empty b s =
    let P : Prefix → Type 0 = λ p. pattern_of (b ∷ s) ≡ completes p s in
    pick_eq P b 48 _ _ (λ q. rw q (zero_first s)) (λ k. pick_eq P b 45 _ _ (λ q. rw q) (λ l. simp (ne_eqb b 48 k, ne_eqb b 45 l) (leading false b s)))
one Minus b s = negated (positive_of (b ∷ s)) (λ m q. let d = digit 49 b _ m q in omega (arith, after_grows m (b - 48) s d.2)) ∙ leading true b s
one (Number negative false n) b s = longer negative n 48 b s
one (Number negative true n) b s = refl
one Failed b s = refl

none_left : (p : Prefix) → (completes p []) ≡ so_far p
unfolding pattern_of signed_of negative_of positive_of digits_after same
none_left Empty = refl
none_left Minus = refl
none_left (Number negative true n) = refl
none_left (Number negative false n) = refl
none_left Failed = refl

all : (s : List ℕ) (p : Prefix) → so_far (after p s) ≡ (completes p s)
unfolding after
all [] p = sym (none_left p)
all (b ∷ s) p = all s (stepped p b) ∙ (sym (one p b s))

-- after the steps of a string the answer is the one for it
pub recognised : (s : List ℕ) → so_far (after Empty s) ≡ pattern_of s
recognised s = all s Empty

-- once failed, failed for good
pub failed : (p : Prefix) (s : List ℕ) → p ≡ Failed → so_far (after p s) ≡ None
failed p s e = all s p ∙ ap (λ (q : Prefix). (completes q s)) e

-- a step at a place of a string, and none past its end
pub turn : (p q : Prefix) (s : List ℕ) (i : ℕ) → i < length s → q ≡ stepped p (get_or s i 0) → after p (drop i s) ≡ after q (drop (i + 1) s)
unfolding after
turn p q s i h e = ap (after p) (cut s i h) ∙ ap (λ (r : Prefix). after r (drop (i + 1) s)) (sym e)

pub no_more : (p : Prefix) (s : List ℕ) (i : ℕ) → length s ≤ i → after p (drop i s) ≡ p
unfolding after
no_more p s i h = rw (drop_of_length-le s h)
