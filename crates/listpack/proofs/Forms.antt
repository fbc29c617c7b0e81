-- The forms of an integer, by the size of its body. Assumes nothing.
use mathlib.Core.Path.{◌≡◌, refl, ap, ◌∙◌}
use mathlib.Core.Bool.{true, false}
use mathlib.Core.List.{List, [], ◌∷◌}
use Prim.Native.Nat.{ℕ, ◌+◌, ◌/◌, ◌%◌, ◌≤◌, ◌<◌}
use native.Mathlib.Omega.{arith}
use lib.Dec.{eqb}
use lib.ListN.{length}
use Rattle.octets.specs.Pick.{pick}
use Rattle.octets.specs.Bytes.{le}
use Rattle.listpack.specs.Width.{fits, half_of}
use Rattle.listpack.specs.Element.{integer_body, tiny_body, short_body, wide_body, text_head, back_length}
use Rattle.octets.proofs.Laws.{pick_lt, pick_by}

-- what a claim about every body has to be shown of: each form, with what is known where it is the first that fits
pub record Forms (P : List ℕ → Type 0) (p : ℕ) : Type 0 where
  pub tiny : p < 128 → P (tiny_body p)
  pub short : 128 ≤ p → fits 4096 p ≡ true → P (short_body p)
  pub wide2 : fits 4096 p ≡ false → fits (half_of 2) p ≡ true → P (wide_body 241 2 p)
  pub wide3 : fits (half_of 2) p ≡ false → fits (half_of 3) p ≡ true → P (wide_body 242 3 p)
  pub wide4 : fits (half_of 3) p ≡ false → fits (half_of 4) p ≡ true → P (wide_body 243 4 p)
  pub wide8 : fits (half_of 4) p ≡ false → P (wide_body 244 8 p)

pub by_forms : (P : List ℕ → Type 0) (p : ℕ) → Forms P p → P (integer_body p)
unfolding integer_body
by_forms P p f =
    pick_lt P p 128 _ _ f.tiny λ k.
    pick_by P (fits 4096 p) _ _ (f.short k) λ a.
    pick_by P (fits (half_of 2) p) _ _ (f.wide2 a) λ b.
    pick_by P (fits (half_of 3) p) _ _ (f.wide3 b) λ c.
    pick_by P (fits (half_of 4) p) _ _ (f.wide4 c) f.wide8

-- the body of p in n bytes, where that is the size of its form
abbrev pub body_in : ℕ → ℕ → List ℕ
body_in n p =
    pick (eqb n 1) (tiny_body p)
    (pick (eqb n 2) (short_body p)
    (pick (eqb n 3) (wide_body 241 2 p)
    (pick (eqb n 4) (wide_body 242 3 p)
    (pick (eqb n 5) (wide_body 243 4 p)
    (wide_body 244 8 p)))))

pub body_in_lem : (p : ℕ) → integer_body p ≡ body_in (length (integer_body p)) p
unfolding le
body_in_lem p =
    by_forms (λ (l : List ℕ). l ≡ body_in (length l) p) p
    (record { tiny = λ k. refl; short = λ k e. refl; wide2 = λ e f. refl; wide3 = λ e f. refl; wide4 = λ e f. refl; wide8 = λ e. refl })

-- a body of n bytes is that of the form
pub body_of_lem : (p n : ℕ) → length (integer_body p) ≡ n → integer_body p ≡ body_in n p
body_of_lem p n e = body_in_lem p ∙ ap (λ (k : ℕ). body_in k p) e

pub body_size : (p : ℕ) → (1 ≤ length (integer_body p)) × (length (integer_body p) ≤ 9)
unfolding le
body_size p =
    by_forms (λ (l : List ℕ). (1 ≤ length l) × (length l ≤ 9)) p
    (record { tiny = λ k. omega arith; short = λ k e. omega arith; wide2 = λ e f. omega arith; wide3 = λ e f. omega arith; wide4 = λ e f. omega arith; wide8 = λ e. omega arith })

pub head_size : (n : ℕ) → (1 ≤ length (text_head n)) × (length (text_head n) ≤ 2)
unfolding text_head
head_size n =
    pick_lt (λ (l : List ℕ). (1 ≤ length l) × (length l ≤ 2)) n 64 _ _ (λ k. omega arith) (λ k. omega arith)

pub back_size : (n : ℕ) → (1 ≤ length (back_length n)) × (length (back_length n) ≤ 2)
unfolding back_length
back_size n =
    pick_lt (λ (l : List ℕ). (1 ≤ length l) × (length l ≤ 2)) n 128 _ _ (λ k. omega arith) (λ k. omega arith)

-- the same for the head of a text of l bytes
abbrev pub head_in : ℕ → ℕ → List ℕ
head_in n l = pick (eqb n 1) ((128 + l) ∷ []) ((224 + l / 256) ∷ (l % 256) ∷ [])

pub head_of : (l n : ℕ) → length (text_head l) ≡ n → text_head l ≡ head_in n l
unfolding text_head
head_of l n e =
    pick_lt (λ (x : List ℕ). x ≡ head_in (length x) l) l 64 _ _ (λ k. refl) (λ k. refl) ∙ ap (λ (k : ℕ). head_in k l) e
