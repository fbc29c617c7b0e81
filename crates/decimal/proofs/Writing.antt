-- What a writer of a text puts down: the sign, two digits more, the first digit. Assumes nothing.
use mathlib.Core.Path.{◌≡◌, sym, ap, ◌∙◌}
use mathlib.Core.List.{List, [], ◌∷◌, ◌++◌}
use Prim.Native.Nat.{ℕ, ◌+◌, ◌-◌, ◌/◌, ◌%◌, ◌^◌, ◌≤◌, ◌<◌}
use native.Mathlib.Omega.{arith}
use lib.ListN.{length, set, length-append}
use borrow.Author.Tests.{lt-ltb, le-ltb}
use Rattle.octets.specs.Place.{put}
use Rattle.octets.proofs.Laws.{put_first, put_append, put_swap, set_put}
use Rattle.decimal.specs.Text.{text_of, natural_text}
use Rattle.decimal.proofs.Natural.{natural_one, natural_pair}

pub text_plus : (p : ℕ) → p < 2 ^ 63 → text_of p ≡ natural_text p
unfolding text_of
text_plus p h = simp lt-ltb

pub text_minus : (p n : ℕ) → 2 ^ 63 ≤ p → 2 ^ 64 - p ≡ n → text_of p ≡ 45 ∷ natural_text n
unfolding text_of
text_minus p n h e = simp (le-ltb, e)

module _ (d : List ℕ) (at : ℕ) where
  pub put_minus : (p n : ℕ) → 2 ^ 63 ≤ p → 2 ^ 64 - p ≡ n → at < length d → put (set d at 45) (at + 1) (natural_text n) ≡ put d at (text_of p)
  put_minus p n h e k = sym (ap (put d at) (text_minus p n h e) ∙ put_first d at 45 (natural_text n) k)

  -- the last two digits, behind those that are left
  pub put_turn : (x end : ℕ) (e : List ℕ) → 100 ≤ x → x < 2 ^ 64 → end ≡ at + length (natural_text x) → end ≤ length d
      → e ≡ put d (end - 2) ((48 + x % 100 / 10) ∷ ((48 + x % 100 % 10) ∷ [])) → put d at (natural_text x) ≡ put e at (natural_text (x / 100))
  put_turn x end e h k q l f =
      let t : List ℕ = natural_text (x / 100) in
      let u : List ℕ = (48 + x % 100 / 10) ∷ ((48 + x % 100 % 10) ∷ []) in
      let p : natural_text x ≡ t ++ u = natural_pair x h k in
      let n : end ≡ at + length t + 2 = omega (arith, ap length p, length-append t u) in
      let j : at + length t ≡ end - 2 = omega arith in
      ap (put d at) p
      ∙ sym (put_append d at t u (omega arith))
      ∙ put_swap d at t (at + length t) u (omega arith) (omega arith)
      ∙ ap (λ (i : ℕ). put (put d i u) at t) j
      ∙ ap (λ (s : List ℕ). put s at t) (sym f)

  pub put_end : (x : ℕ) → x < 10 → at < length d → put d at (natural_text x) ≡ set d at (48 + x)
  put_end x h k = ap (put d at) (natural_one x h) ∙ sym (set_put d at (48 + x) k)
