-- Two keys: which comes first, or that they are the same. Assumes nothing.
use mathlib.Core.Path.{◌≡◌, refl, sym, ap, ◌∙◌}
use mathlib.Core.Bool.{Bool, true, false, true≢false}
use mathlib.Core.List.{List}
use Prim.Native.Nat.{ℕ}
use Rattle.octets.specs.Compare.{order_of, is_less, same, comes_before}
use Rattle.std.specs.declared.cmp.Ordering.{Ordering}
use Rattle.std.specs.declared.cmp.Ordering.TheVariants.{Less, Equal, Greater}
use Rattle.octets.proofs.Laws.{mirror, order_mirror, order_equal, same_true, same_refl, before_self, before_trans, before_differs}

pub is_false : (t : Bool) → (t ≡ true → ⊥) → t ≡ false
is_false true h = absurd (h refl)
is_false false h = refl

pub data Sides (a b : List ℕ) : Type 0 where
  below : comes_before a b ≡ true → comes_before b a ≡ false → same a b ≡ false → Sides a b
  equal : a ≡ b → comes_before a b ≡ false → comes_before b a ≡ false → same a b ≡ true → Sides a b
  above : comes_before a b ≡ false → comes_before b a ≡ true → same a b ≡ false → Sides a b

pub before_once : (a b : List ℕ) → comes_before a b ≡ true → comes_before b a ≡ false
before_once a b h = is_false (comes_before b a) (λ g. true≢false (sym (before_trans a b a h g) ∙ before_self a))

pub same_swap : (a b : List ℕ) → same a b ≡ false → same b a ≡ false
same_swap a b h = is_false (same b a) (λ e. true≢false (sym (ap (same a) (same_true b a e) ∙ same_refl a) ∙ h))

pub sides : (a b : List ℕ) → Sides a b
sides a b = go (order_of a b) refl
  where
    go : (o : Ordering) → order_of a b ≡ o → Sides a b
    go Less e = below (ap is_less e) (ap is_less (order_mirror a b ∙ ap mirror e)) (before_differs a b (ap is_less e))
    go Equal e =
        let q = order_equal a b e in
        equal q (ap is_less e) (ap is_less (order_mirror a b ∙ ap mirror e)) (ap (same a) (sym q) ∙ same_refl a)
    go Greater e =
        let q = ap is_less (order_mirror a b ∙ ap mirror e) in
        above (ap is_less e) q (same_swap b a (before_differs b a q))
