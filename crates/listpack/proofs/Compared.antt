-- An integer compared with a string: it is a string's exactly when the string is recognised as it. Assumes nothing.
use mathlib.Core.Path.{◌≡◌, refl, sym, ap, ◌∙◌}
use mathlib.Core.Bool.{Bool, true, false}
use mathlib.Core.List.{List}
use Rattle.std.proofs.Common.{Some, None}
use Prim.Native.Nat.{ℕ, ◌^◌, ◌<◌}
use native.Mathlib.Omega.{arith}
use lib.Dec.{eqb}
use borrow.Author.Tests.{eqb-true, eqb-false}
use Rattle.octets.specs.Compare.{same}
use Rattle.octets.proofs.Laws.{same_refl, same_true}
use Rattle.decimal.specs.Integer.{pattern_of}
use Rattle.decimal.specs.Text.{text_of}
use Rattle.decimal.proofs.Laws.{text_of_pattern, pattern_of_text}

differ : (a b : List ℕ) → (a ≡ b → ⊥) → same a b ≡ false
differ a b h = by (same a b) refl
  where
    by : (t : Bool) → same a b ≡ t → t ≡ false
    by true e = absurd (h (same_true a b e))
    by false e = refl

module _ (p : ℕ) (x : List ℕ) (below : p < 2 ^ 64) where
  pub same_text : (q : ℕ) → pattern_of x ≡ Some q → same (text_of p) x ≡ eqb q p
  same_text q e = by (eqb q p) refl
    where
      by : (t : Bool) → eqb q p ≡ t → same (text_of p) x ≡ t
      by true k =
          ap (λ (l : List ℕ). same l x) (ap text_of (sym (eqb-true q p k)) ∙ text_of_pattern x q e) ∙ same_refl x
      by false k =
          differ (text_of p) x
          (λ f.
          let g : Some q ≡ Some p = sym e ∙ ap pattern_of (sym f) ∙ pattern_of_text p below in
          let z : q ≡ p = cc in
          eqb-false q p k z)

  pub other_text : pattern_of x ≡ None → same (text_of p) x ≡ false
  other_text e =
      differ (text_of p) x
      (λ f.
      let g : ◌≡◌ None (Some p) = sym e ∙ ap pattern_of (sym f) ∙ pattern_of_text p below in
      let z : ◌≡◌ {A = ℕ} 0 1 = cc in
      omega arith)
