-- Numbers in decimal: what is read is what was written, and what is written is read back. Assumes nothing.
use mathlib.Core.Path.{◌≡◌, refl, sym, ap, ap₂, ◌∙◌}
use mathlib.Core.Bool.{Bool, true, not}
use mathlib.Core.List.{List, [], ◌∷◌, ◌++◌, append_assoc}
use Rattle.std.proofs.Common.{Option, Some}
use Prim.Native.Nat.{ℕ, zero, suc, ◌+◌, ◌-◌, ◌*◌, ◌^◌, ◌≤◌, ◌<◌}
use native.Mathlib.Omega.{arith}
use lib.Dec.{leb, ltb}
use borrow.Author.Tests.{lt-ltb, ltb-true, le-leb, leb-true, ne_eqb, not-true}
use Rattle.octets.specs.Pick.{both}
use Rattle.octets.proofs.Laws.{pick_by, pick_eq, needed, some_is, both_true}
use Rattle.decimal.specs.Integer.{is_digit, digits_after, positive_of}
use Rattle.decimal.specs.Text.{natural_text}
use Rattle.decimal.proofs.Laws.{digit, natural_one, natural_more, after_grows, text_positive}
use Rattle.resp.specs.Parse.{Got, gives, cut_digits, cut_number}

-- from lo to '9'
between : (lo b : ℕ) → both (leb lo b) (leb b 57) ≡ true → (lo ≤ b) × (b ≤ 57)
between lo b e = let p = both_true (leb lo b) (leb b 57) e in (leb-true lo b p.0, leb-true b 57 p.1)

-- a digit more at the end of a text
text_grown : (n b : ℕ) (s : List ℕ) → 1 ≤ n → 48 ≤ b → b ≤ 57 → 10 * n + (b - 48) < 2 ^ 64 → natural_text n ++ (b ∷ s) ≡ natural_text (10 * n + (b - 48)) ++ s
text_grown n b s h lo hi k =
    let x : ℕ = 10 * n + (b - 48) in
    let t : natural_text x ≡ natural_text n ++ (b ∷ []) =
    natural_more x (omega arith) k ∙ ap₂ (λ (q c : ℕ). natural_text q ++ (c ∷ [])) (omega arith) (omega arith) in
    sym (ap (λ (l : List ℕ). l ++ s) t ∙ append_assoc (natural_text n) (b ∷ []) s)

-- a text of one digit
first : (n b : ℕ) (s : List ℕ) → n < 10 → b ≡ 48 + n → b ∷ s ≡ natural_text n ++ s
first n b s h q = rw (natural_one n h, q)

abbrev Reads : List ℕ → Got ℕ → Type 0
Reads s c = (c.got < 2 ^ 64) × (s ≡ natural_text c.got ++ c.rest)

-- the number ends here
ends : (n : ℕ) (s : List ℕ) (c : Got ℕ) → n < 2 ^ 64 → Some (gives n s) ≡ Some c → Reads (natural_text n ++ s) c
ends n s c k e = rw (← some_is e) (k, refl)

digits_is : (n : ℕ) (s : List ℕ) (c : Got ℕ) → 1 ≤ n → n < 2 ^ 64 → cut_digits n s ≡ Some c → Reads (natural_text n ++ s) c
unfolding cut_digits
digits_is n [] c h k e = ends n [] c k e
digits_is n (b ∷ s) c h k e =
    let P : Option (Got ℕ) → Type 0 = λ o. o ≡ Some c → Reads (natural_text n ++ (b ∷ s)) c in
    pick_by P (is_digit b) _ _ (λ d e. needed (ltb (10 * n + (b - 48)) (2 ^ 64)) _ e λ l e.
    let x = between 48 b d in
    let y = ltb-true (10 * n + (b - 48)) (2 ^ 64) l in
    rw (text_grown n b s h x.0 x.1 y) (digits_is (10 * n + (b - 48)) s c (omega arith) y e))
    (λ d. ends n (b ∷ s) c k) e

pub number_is : (s : List ℕ) (c : Got ℕ) → cut_number s ≡ Some c → (c.got < 2 ^ 64) × (s ≡ natural_text c.got ++ c.rest)
unfolding cut_number
number_is [] c e = absurd (let z : ◌≡◌ {A = ℕ} 0 1 = cc in omega arith)
number_is (b ∷ s) c e =
    let P : Option (Got ℕ) → Type 0 = λ o. o ≡ Some c → Reads (b ∷ s) c in
    pick_eq P b 48 _ _ (λ q e. rw (first 0 b s (omega arith) q) (ends 0 s c (omega arith) e))
    (λ h e. needed (both (leb 49 b) (leb b 57)) _ e λ d e.
    let x = between 49 b d in
    rw (first (b - 48) b s (omega arith) (omega arith)) (digits_is (b - 48) s c (omega arith) (omega arith) e)) e

-- a list that does not begin with a digit
abbrev pub no_digit : List ℕ → Bool
no_digit [] = true
no_digit (b ∷ s) = not (is_digit b)

digits_end : (n : ℕ) (r : List ℕ) → no_digit r ≡ true → cut_digits n r ≡ Some (gives n r)
unfolding cut_digits
digits_end n [] e = refl
digits_end n (b ∷ r) e = rw (not-true (is_digit b) e)

digits_here : (n m : ℕ) (s r : List ℕ) → m < 2 ^ 64 → no_digit r ≡ true → digits_after n s ≡ Some m → cut_digits n (s ++ r) ≡ Some (gives m r)
unfolding cut_digits digits_after
digits_here n m [] r h k e = rw (← some_is e) (digits_end n r k)
digits_here n m (b ∷ s) r h k e =
    let d = digit 48 b _ m e in
    let x : ℕ = 10 * n + (b - 48) in
    simp (le-leb 48 b d.0, le-leb b 57 d.1, lt-ltb x (2 ^ 64) (omega (arith, after_grows m x s d.2))) (digits_here x m s r h k d.2)

positive_here : (m : ℕ) (s r : List ℕ) → m < 2 ^ 64 → no_digit r ≡ true → positive_of s ≡ Some m → cut_number (s ++ r) ≡ Some (gives m r)
unfolding cut_number positive_of
positive_here m [] r h k e = absurd (let z : ◌≡◌ {A = ℕ} 0 1 = cc in omega arith)
positive_here m (b ∷ s) r h k e =
    let d = digit 49 b _ m e in
    simp (ne_eqb b 48 (omega arith), le-leb 49 b d.0, le-leb b 57 d.1) (digits_here (b - 48) m s r h k d.2)

pub number_here : (n : ℕ) (r : List ℕ) → n < 2 ^ 64 → no_digit r ≡ true → cut_number (natural_text n ++ r) ≡ Some (gives n r)
unfolding cut_number
number_here zero r h k = rw (natural_one 0 (omega arith))
number_here (suc n) r h k = positive_here (suc n) (natural_text (suc n)) r h k (text_positive (suc n) (omega arith) h)
