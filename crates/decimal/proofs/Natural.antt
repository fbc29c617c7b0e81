-- Natural numbers in decimal digits: one digit more, and that digits read and digits written are inverse. Assumes nothing.
use mathlib.Core.Path.{◌≡◌, ap, ap₂, ◌∙◌}
use mathlib.Core.List.{List, [], ◌∷◌, ◌++◌, append_assoc, append-nil}
use Rattle.std.proofs.Common.{Option, Some, None}
use Prim.Native.Nat.{ℕ, zero, suc, ◌+◌, ◌-◌, ◌*◌, ◌/◌, ◌%◌, ◌^◌, ◌≤◌, ◌<◌}
use native.Mathlib.Nat.{pow-succ'}
use native.Mathlib.Omega.{arith}
use lib.Dec.{leb, ltb}
use lib.ListN.{length, length-append}
use borrow.Author.Tests.{lt-ltb, le-ltb, le-leb, leb-true}
use Rattle.octets.specs.Pick.{pick, both}
use Rattle.octets.specs.Maybe.{◌>>◌, need}
use Rattle.octets.proofs.Laws.{pick_lt, needed, both_true}
use Rattle.decimal.specs.Integer.{digits_after, positive_of}
use Rattle.decimal.specs.Text.{digits_of, natural_text}

-- room for a digit more than there are changes nothing
more_room : (m n : ℕ) → n < 10 ^ suc m → digits_of (suc m) n ≡ digits_of (suc (suc m)) n
unfolding digits_of
more_room zero n h = simp (lt-ltb n 10 (omega (arith, pow-succ' 10 zero)))
more_room (suc m) n h =
    ap (λ (l : List ℕ). pick (ltb n 10) ((48 + n) ∷ []) (l ++ ((48 + n % 10) ∷ []))) (more_room m (n / 10) (omega (arith, pow-succ' 10 (suc m))))

module _ (n : ℕ) where
  pub natural_one : n < 10 → natural_text n ≡ (48 + n) ∷ []
  unfolding natural_text digits_of
  natural_one h = simp lt-ltb

  pub natural_more : 10 ≤ n → n < 2 ^ 64 → natural_text n ≡ natural_text (n / 10) ++ ((48 + n % 10) ∷ [])
  unfolding natural_text digits_of
  natural_more h k = simp le-ltb (ap (λ (l : List ℕ). l ++ ((48 + n % 10) ∷ [])) (more_room 18 (n / 10) (omega arith)))

  pub length_one : n < 10 → length (natural_text n) ≡ 1
  length_one h = ap length (natural_one h)

  pub length_more : 10 ≤ n → n < 2 ^ 64 → length (natural_text n) ≡ length (natural_text (n / 10)) + 1
  length_more h k = ap length (natural_more h k) ∙ length-append (natural_text (n / 10)) ((48 + n % 10) ∷ [])

-- four digits at a time
pub length_four : (n : ℕ) → 10000 ≤ n → n < 2 ^ 64 → length (natural_text n) ≡ 4 + length (natural_text (n / 10000))
length_four n h k =
    let e : n / 10 / 10 / 10 / 10 ≡ n / 10000 = omega arith in
    omega (
      arith,
      length_more n (omega arith) k,
      length_more (n / 10) (omega arith) (omega arith),
      length_more (n / 10 / 10) (omega arith) (omega arith),
      length_more (n / 10 / 10 / 10) (omega arith) (omega arith),
      ap (λ (i : ℕ). length (natural_text i)) e,
    )

-- two digits, alone and after others
pub natural_two : (n : ℕ) → 10 ≤ n → n < 100 → natural_text n ≡ (48 + n / 10) ∷ ((48 + n % 10) ∷ [])
natural_two n h k = natural_more n h (omega arith) ∙ ap (λ (l : List ℕ). l ++ ((48 + n % 10) ∷ [])) (natural_one (n / 10) (omega arith))

pub natural_pair : (n : ℕ) → 100 ≤ n → n < 2 ^ 64 → natural_text n ≡ natural_text (n / 100) ++ ((48 + n % 100 / 10) ∷ ((48 + n % 100 % 10) ∷ []))
natural_pair n h k =
    let a : n / 10 / 10 ≡ n / 100 = omega arith in
    let b : 48 + n / 10 % 10 ≡ 48 + n % 100 / 10 = omega arith in
    let c : 48 + n % 10 ≡ 48 + n % 100 % 10 = omega arith in
    natural_more n (omega arith) k
    ∙ ap (λ (l : List ℕ). l ++ ((48 + n % 10) ∷ [])) (natural_more (n / 10) (omega arith) (omega arith))
    ∙ append_assoc (natural_text (n / 10 / 10)) ((48 + n / 10 % 10) ∷ []) ((48 + n % 10) ∷ [])
    ∙ ap (λ (i : ℕ). natural_text i ++ ((48 + n / 10 % 10) ∷ ((48 + n % 10) ∷ []))) a
    ∙ ap₂ (λ (x y : ℕ). natural_text (n / 100) ++ (x ∷ (y ∷ []))) b c

length_digits : (m n : ℕ) → length (digits_of m n) ≤ m
unfolding digits_of
length_digits zero n = omega arith
length_digits (suc m) n =
    pick_lt (λ (l : List ℕ). length l ≤ suc m) n 10 _ _ (λ h. omega arith)
    (λ h. omega (arith, length-append (digits_of m (n / 10)) ((48 + n % 10) ∷ []), length_digits m (n / 10)))

pub length_natural : (n : ℕ) → (1 ≤ length (natural_text n)) × (length (natural_text n) ≤ 20)
unfolding natural_text digits_of
length_natural n = (
  pick_lt (λ (l : List ℕ). 1 ≤ length l) n 10 _ _ (λ h. omega arith)
      (λ h. omega (arith, length-append (digits_of 19 (n / 10)) ((48 + n % 10) ∷ []))),
  length_digits 20 n,
)

-- below 10^19 there are at most 19 digits
pub length_shorter : (n : ℕ) → n < 10 ^ 19 → length (natural_text n) ≤ 19
unfolding natural_text
length_shorter n h = rw (← (more_room 18 n h)) (length_digits 19 n)

pub none_some : {x : ℕ} → None ≡ Some x → ⊥
none_some {x} e = let z : ◌≡◌ {A = ℕ} 0 1 = cc in omega arith

-- a digit that was found, from lo on
pub digit : (lo b : ℕ) (o : Option ℕ) (m : ℕ) → (need (both (leb lo b) (leb b 57)) >> o) ≡ Some m → (lo ≤ b) × (b ≤ 57) × (o ≡ Some m)
digit lo b o m e =
    needed (both (leb lo b) (leb b 57)) o e
    (λ t k. let u = both_true (leb lo b) (leb b 57) t in (leb-true lo b u.0, leb-true b 57 u.1, k))

module _ (m : ℕ) where
  -- more digits make no smaller number
  pub after_grows : (n : ℕ) (s : List ℕ) → digits_after n s ≡ Some m → n ≤ m
  unfolding digits_after
  after_grows n [] e = let q : n ≡ m = cc in omega arith
  after_grows n (b ∷ bs) e = omega (arith, after_grows (10 * n + (b - 48)) bs (digit 48 b _ m e).2)

  -- the number whose text is that of n and then s
  after_text : (n : ℕ) (s : List ℕ) → m < 2 ^ 64 → 1 ≤ n → digits_after n s ≡ Some m → natural_text m ≡ natural_text n ++ s
  unfolding digits_after
  after_text n [] k h e = let q : n ≡ m = cc in rw (q, append-nil)
  after_text n (b ∷ bs) k h e =
      let d = digit 48 b _ m e in
      let x : ℕ = 10 * n + (b - 48) in
      let t : natural_text x ≡ natural_text n ++ (b ∷ []) =
      natural_more x (omega arith) (omega (arith, after_grows x bs d.2))
      ∙ ap₂ (λ (q c : ℕ). natural_text q ++ (c ∷ [])) (omega arith) (omega arith) in
      after_text x bs k (omega arith) d.2 ∙ ap (λ (l : List ℕ). l ++ bs) t ∙ append_assoc (natural_text n) (b ∷ []) bs

pub positive_text : (s : List ℕ) (n : ℕ) → positive_of s ≡ Some n → n < 2 ^ 64 → (1 ≤ n) × (natural_text n ≡ s)
unfolding positive_of
positive_text [] n e k = absurd (none_some e)
positive_text (b ∷ bs) n e k =
    let d = digit 49 b _ n e in
    let q : 48 + (b - 48) ≡ b = omega arith in (
      omega (arith, after_grows n (b - 48) bs d.2),
      after_text n (b - 48) bs k (omega arith) d.2 ∙ ap (λ (l : List ℕ). l ++ bs) (natural_one (b - 48) (omega arith) ∙ ap (λ (c : ℕ). c ∷ []) q),
    )

-- one digit more at the end
after_last : (m d n : ℕ) (s : List ℕ) → d < 10 → digits_after n s ≡ Some m → digits_after n (s ++ ((48 + d) ∷ [])) ≡ Some (10 * m + d)
unfolding digits_after
after_last m d n [] h e = let q : n ≡ m = cc in
    let r : 48 + d - 48 ≡ d = omega arith in
    simp (le-leb 48 (48 + d) (omega arith), le-leb (48 + d) 57 (omega arith), q, r)
after_last m d n (b ∷ bs) h e =
    let k = digit 48 b _ m e in
    simp (le-leb 48 b k.0, le-leb b 57 k.1) (after_last m d (10 * n + (b - 48)) bs h k.2)

positive_last : (m d : ℕ) (s : List ℕ) → d < 10 → positive_of s ≡ Some m → positive_of (s ++ ((48 + d) ∷ [])) ≡ Some (10 * m + d)
unfolding positive_of
positive_last m d [] h e = absurd (none_some e)
positive_last m d (b ∷ bs) h e =
    let k = digit 49 b _ m e in
    simp (le-leb 49 b k.0, le-leb b 57 k.1) (after_last m d (b - 48) bs h k.2)

single : (n : ℕ) → 1 ≤ n → n < 10 → positive_of ((48 + n) ∷ []) ≡ Some n
unfolding positive_of digits_after
single n h k =
    let r : 48 + n - 48 ≡ n = omega arith in
    simp (le-leb 49 (48 + n) (omega arith), le-leb (48 + n) 57 (omega arith), r)

digits_positive : (k n : ℕ) → 1 ≤ n → n < 10 ^ k → positive_of (digits_of k n) ≡ Some n
unfolding digits_of
digits_positive zero n h l = absurd (omega arith)
digits_positive (suc k) n h l =
    pick_lt (λ (t : List ℕ). positive_of t ≡ Some n) n 10 _ _ (λ j. single n h j) λ j.
    let q : 10 * (n / 10) + n % 10 ≡ n = omega arith in
    positive_last (n / 10) (n % 10) (digits_of k (n / 10)) (omega arith) (digits_positive k (n / 10) (omega arith) (omega (arith, pow-succ' 10 k))) ∙ ap Some q

pub text_positive : (n : ℕ) → 1 ≤ n → n < 2 ^ 64 → positive_of (natural_text n) ≡ Some n
unfolding natural_text
text_positive n h k = digits_positive 20 n h (omega arith)
