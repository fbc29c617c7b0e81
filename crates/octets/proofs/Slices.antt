-- What the library's methods on slices answer, in our terms. Assumes nothing.
use Rattle.std.proofs.Common.{◌≡◌, refl, sym, ap, ◌∙◌, Bool, true, false, ◌&&◌, eqb, List, [], ◌∷◌, ◌++◌, ℕ, ◌+◌, ◌-◌, ◌≤◌, length, take, drop, replicate, get_or, length-take-le, length-drop, arith}
use lib.Pointwise.{pointwise}
use Rattle.std.proofs.lemmas.List.{drop-drop}
use Rattle.std.specs.Cmp.{nat_cmp_is}
use Rattle.std.specs.Ordering.{nat_cmp, ordering_then, is_lt}
use Rattle.std.specs.Cmp.Lexicographic.{slice_cmp}
use Rattle.std.specs.declared.cmp.Ordering.{Ordering}
use Rattle.std.specs.declared.cmp.Ordering.TheVariants.{Less, Equal, Greater}
use borrow.Rule.Slice.PartMut.{put_mid}
use Rattle.octets.specs.Pick.{both}
use Rattle.octets.specs.Bytes.{zeros}
use Rattle.octets.specs.Place.{put}
use Rattle.octets.specs.Compare.{same, order_of, is_less}
use Rattle.octets.proofs.Ordered.{first, first_less, first_equal, first_greater, by_order}

-- after a write to s[at..n]
pub written : (s : List ℕ) (at n : ℕ) (xs ys : List ℕ) → xs ≡ ys → n ≡ at + length ys → put_mid at (n - at) s xs ≡ put s at ys
unfolding put
written s at n xs ys e h =
    ap (λ (zs : List ℕ). put_mid at (n - at) s zs) e
    ∙ ap (λ (zs : List ℕ). take at s ++ (ys ++ zs))
    (drop-drop (n - at) at s ∙ ap (λ (k : ℕ). drop k s) (let k : at + (n - at) ≡ at + length ys = omega arith in k))

-- `cmp`
pub first_is : (x y : ℕ) (o : Ordering) → ordering_then (nat_cmp x y) o ≡ first x y o
first_is x y o =
    by_order x y
    (λ h. ap (λ (c : Ordering). ordering_then c o) (sym (nat_cmp_is x y Less h)) ∙ sym (first_less x y o h))
    (λ h. ap (λ (c : Ordering). ordering_then c o) (sym (nat_cmp_is x y Greater h)) ∙ sym (first_greater x y o h))
    (λ h. ap (λ (c : Ordering). ordering_then c o) (sym (nat_cmp_is x y Equal h)) ∙ sym (first_equal x y o h))

pub order_is : (a b : List ℕ) → slice_cmp nat_cmp a b ≡ order_of a b
unfolding order_of
order_is [] [] = refl
order_is [] (y ∷ b) = refl
order_is (x ∷ a) [] = refl
order_is (x ∷ a) (y ∷ b) = first_is x y (slice_cmp nat_cmp a b) ∙ ap (first x y) (order_is a b)

-- `cmp` of the first bytes, where they differ
pub differ : (a b : List ℕ) → 1 ≤ length a → 1 ≤ length b → (get_or a 0 0 ≡ get_or b 0 0 → ⊥) → nat_cmp (get_or a 0 0) (get_or b 0 0) ≡ order_of a b
unfolding order_of
differ [] b h k n = absurd (let z : ◌≡◌ {A = ℕ} 0 1 = omega arith in omega arith)
differ (x ∷ a) [] h k n = absurd (let z : ◌≡◌ {A = ℕ} 0 1 = omega arith in omega arith)
differ (x ∷ a) (y ∷ b) h k n =
    by_order x y
    (λ h. sym (nat_cmp_is x y Less h) ∙ sym (first_less x y (order_of a b) h))
    (λ h. sym (nat_cmp_is x y Greater h) ∙ sym (first_greater x y (order_of a b) h))
    (λ h. absurd (n h))

pub less_is : (o : Ordering) → is_lt o ≡ is_less o
less_is Less = refl
less_is Equal = refl
less_is Greater = refl

-- `==`
and_is : (s t : Bool) → (s && t) ≡ both s t
and_is true t = refl
and_is false t = refl

pub same_is : (a b : List ℕ) → pointwise eqb a b ≡ same a b
unfolding same
same_is [] [] = refl
same_is [] (y ∷ b) = refl
same_is (x ∷ a) [] = refl
same_is (x ∷ a) (y ∷ b) = and_is (eqb x y) (pointwise eqb a b) ∙ ap (both (eqb x y)) (same_is a b)

-- `fill`
pub filled : (s : List ℕ) (at n : ℕ) → at + n ≤ length s → replicate (length (take (at + n - at) (drop at s))) 0 ≡ zeros n
filled s at n h = ap (λ (k : ℕ). replicate k 0) (length-take-le (at + n - at) (drop at s) (let e : at + n - at ≤ length (drop at s) = omega (arith, length-drop at s) in e) ∙ (let e : at + n - at ≡ n = omega arith in e))
