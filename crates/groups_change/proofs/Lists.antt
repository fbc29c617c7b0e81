-- Bytes put or spliced between what stands before and after. Assumes nothing.
use mathlib.Core.Path.{◌≡◌, sym, ap, ap₂, ◌∙◌}
use mathlib.Core.List.{List, ◌++◌, append_assoc}
use Prim.Native.Nat.{ℕ, ◌+◌, ◌-◌, max}
use native.Mathlib.Omega.{arith}
use lib.ListN.{length, take, drop, length-append}
use lib.Seq.{take_at, drop-append-add}
use Rattle.octets.specs.Bytes.{zeros}
use Rattle.octets.specs.Place.{area, spliced, spliced_end}
use Rattle.octets.proofs.Laws.{area_middle}

pub spliced_at : (x e y t new : List ℕ) (used at gone : ℕ) → length x ≡ at → length e ≡ gone → used ≡ at + gone + length y
    → spliced (x ++ (e ++ (y ++ t))) used at gone new ≡ x ++ (new ++ (y ++ (zeros (gone - length new) ++ drop (length new - gone) t)))
unfolding spliced
spliced_at x e y t new used at gone hx he hu =
    let s : List ℕ = x ++ (e ++ (y ++ t)) in
    let lxe : length (x ++ e) ≡ at + gone = omega (arith, length-append x e) in
    let r1 : s ≡ (x ++ e) ++ (y ++ t) = sym (append_assoc x e (y ++ t)) in
    let r2 : s ≡ ((x ++ e) ++ y) ++ t = r1 ∙ sym (append_assoc (x ++ e) y t) in
    let ly : length y ≡ used - (at + gone) = omega arith in
    let b : area (at + gone) (used - (at + gone)) s ≡ y = ap (area (at + gone) (used - (at + gone))) r1 ∙ area_middle (x ++ e) y t (at + gone) (used - (at + gone)) lxe ly in
    let z : used - spliced_end used at gone new ≡ gone - length new = omega arith in
    let m : max used (spliced_end used at gone new) ≡ length ((x ++ e) ++ y) + (length new - gone) = omega (arith, length-append (x ++ e) y) in
    let d : drop (max used (spliced_end used at gone new)) s ≡ drop (length new - gone) t =
    ap₂ (λ (k : ℕ) (l : List ℕ). drop k l) m r2 ∙ drop-append-add ((x ++ e) ++ y) t (length new - gone) in
    let a : take at s ≡ x = take_at x (e ++ (y ++ t)) at hx in
    let w : zeros (used - spliced_end used at gone new) ≡ zeros (gone - length new) = ap zeros z in
    λ i. a i ++ (new ++ (b i ++ (w i ++ d i)))
