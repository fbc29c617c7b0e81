-- What `sprout` makes of rising entries is their shape. Assumes nothing.
use mathlib.Core.Bool.{Bool, true, false}
use mathlib.Core.Path.{◌≡◌, refl, sym, ap, ap₂, ◌∙◌, subst, subst⁻¹}
use mathlib.Core.List.{List, [], ◌∷◌, ◌++◌}
use Prim.Native.Nat.{ℕ, zero, suc, ◌+◌, ◌-◌, ◌≤◌, ◌<◌}
use native.Mathlib.Omega.{arith}
use borrow.Author.Tests.{eqb-true, eqb-false}
use lib.Dec.{eqb}
use lib.ListN.{length, take, drop, length-append}
use Rattle.octets.specs.Pick.{pick, both}
use Rattle.keys.specs.Entries.{Entry, rising, is_map}
use Rattle.radix.specs.Shape.{Shape, nil, node, prefix_of, own_entry, entries_below, shape}
use Rattle.radix.specs.Canon.{is_nil}
use Rattle.radix.specs.Sprout.{group, stretch, own_first, after_own, sprout_node, sprout}
use Rattle.radix.proofs.Under.{under, remainders, entries_node, prefix_cut, length_under}
use Rattle.radix.proofs.Keys.{StartsAt, From, short_under}
use Rattle.keys.proofs.Laws.{Short, keys_left, keys_right, rising_right, map_rising, map_length, map_fit}
use Rattle.radix.proofs.Fits.{fit_from, fit_short}
use Rattle.radix.proofs.Rules.{leaf, only, one_of, NotEmpty, some_held, rules_canonical, length_some}
use Rattle.radix.proofs.Back.{Good, prefix_end, past_prefix}
use Rattle.radix.proofs.Unique.{shape_of_canonical}
use Rattle.radix.proofs.Branches.{Grouped, grouped, group_take, group_drop, group_sum, group_some, Branch, by_byte, by_prefix, branch_rest, branch_label, own_after, after_from, after_rising, after_short, after_length, none_left}

-- the node of a group, from what is made of its rest and of the later entries
module _ (go : Bool → List Entry → Shape) {first : Bool} {es : List Entry} (g : Grouped es) (w : Branch first es)
    (below : Good true 0 (after_own w.rest) (go true (after_own w.rest))) where
  made : sprout_node go (stretch first es) (take (group es) es) (drop (group es) es) ≡ node w.label (own_first w.rest) (go true (after_own w.rest)) (go false g.later)
  made = rw (branch_label w, branch_rest w, group_drop es g)

  remains : remainders (own_first w.rest) (go true (after_own w.rest)) ≡ w.rest
  remains = ap (λ (z : List Entry). own_entry [] (own_first w.rest) ++ z) below.back ∙ own_after w.rest

  held : NotEmpty (remainders (own_first w.rest) (go true (after_own w.rest)))
  held = subst⁻¹ NotEmpty remains w.held

  all : entries_below [] (go false g.later) ≡ g.later → entries_below [] (node w.label (own_first w.rest) (go true (after_own w.rest)) (go false g.later)) ≡ es
  all e =
      entries_node [] w.label (own_first w.rest) (go true (after_own w.rest)) (go false g.later)
      ∙ ap₂ (λ (y z : List Entry). under w.label y ++ z) remains e
      ∙ ap (λ (z : List Entry). z ++ g.later) (sym w.taken ∙ group_take es g)
      ∙ sym g.joined

byte_good : (go : Bool → List Entry → Shape) (first : Bool) (least : ℕ) (es : List Entry) (g : Grouped es) (r : rising es ≡ true) (e : both first (eqb (group es) (length es)) ≡ false)
    → least ≤ g.b → both first (is_nil (go false g.later)) ≡ false
    → Good true 0 (after_own g.inside) (go true (after_own g.inside)) → Good false (suc g.b) g.later (go false g.later)
    → Good first least es (sprout_node go (stretch first es) (take (group es) es) (drop (group es) es))
unfolding by_byte
byte_good go first least es g r e m n below later =
    let w = by_byte first es g r e in
    subst⁻¹ (Good first least es) (made go g w below)
    (record {
      kept = one_of n m (some_held (own_first w.rest) (go true (after_own w.rest)) (held go g w below)) below.kept later.kept;
      back = all go g w below later.back;
    })

-- where the label is all that the keys share
run_good : (go : Bool → List Entry → Shape) (es : List Entry) (g : Grouped es) (r : rising es ≡ true) (e : group es ≡ length es) (p : List ℕ) (a : ℕ)
    → prefix_of es ≡ a ∷ p → go false g.later ≡ nil
    → Good true 0 (after_own (by_prefix es g r e).rest) (go true (after_own (by_prefix es g r e).rest))
    → Good true 0 es (sprout_node go (stretch true es) (take (group es) es) (drop (group es) es))
unfolding by_prefix entries_below
run_good go es g r e p a q n below =
    let w = by_prefix es g r e in
    let c = ap (under (prefix_of es)) (remains go g w below) in
    let m : g.later ≡ [] = none_left g.later (omega (arith, group_sum es g)) in
    subst⁻¹ (Good true 0 es)
    (made go g w below ∙ ap₂ (λ (l : List ℕ) (s : Shape). node l (own_first w.rest) (go true (after_own w.rest)) s) q n)
    (record {
      kept =
          only (prefix_end (own_first w.rest) below.kept (held go g w below) (ap prefix_of (remains go g w below) ∙ past_prefix es w.rest (prefix_cut es) w.held))
          below.kept;
      back = ap (entries_below []) (ap₂ (λ (l : List ℕ) (s : Shape). node l (own_first w.rest) (go true (after_own w.rest)) s) (sym q) (sym n))
          ∙ all go g w below (ap (entries_below []) n ∙ sym m);
    })

sprout_some : (f : ℕ) (first : Bool) (es : List Entry) → 0 < f → NotEmpty es → is_nil (sprout f first es) ≡ false
unfolding sprout
sprout_some zero first es h s = absurd (omega arith)
sprout_some (suc f) first [] h s = absurd s
sprout_some (suc f) first (e ∷ es) h s = refl

pub sprout_none : (f : ℕ) (first : Bool) (es : List Entry) → es ≡ [] → sprout f first es ≡ nil
unfolding sprout
sprout_none zero first es e = refl
sprout_none (suc f) first es e = rw e

first_least : (n b : ℕ) (xs rest : List Entry) → NotEmpty xs → From n (under (b ∷ []) xs ++ rest) → n ≤ b
first_least n b [] rest s h = absurd s
first_least n b (x ∷ xs) rest s h = h.0

short_rest : (s : ℕ) (l : List ℕ) (xs : List Entry) → 1 ≤ length l → NotEmpty xs → Short s (under l xs) → (1 ≤ s) × Short (s - 1) xs
short_rest s [] xs n h k = absurd (omega arith)
short_rest s (a ∷ l) [] n h k = absurd h
short_rest s (a ∷ l) (x ∷ xs) n h k =
    let m : 1 ≤ s = omega (arith, k.0) in
    let e : s ≡ suc (s - 1) = omega arith in
    (m, short_under (s - 1) a l (x ∷ xs) (subst (λ (t : ℕ). Short t (under (a ∷ l) (x ∷ xs))) e k))

prefix_cons : (p : List ℕ) → 1 ≤ length p → (a : ℕ) × ((q : List ℕ) × (p ≡ a ∷ q))
prefix_cons [] h = absurd (omega arith)
prefix_cons (a ∷ q) h = (a, (q, refl))

-- enough steps: one for each entry, and one for each byte of the longest key
abbrev Sprouts : ℕ → Type 0
Sprouts f =
    (s : ℕ) (first : Bool) (least : ℕ) (es : List Entry) → rising es ≡ true → Short s es → From least es → length es + s ≤ f → (first ≡ true → least ≡ 0)
    → Good first least es (sprout f first es)

module _ (f s least : ℕ) (es : List Entry) (g : Grouped es) (r : rising es ≡ true) (h : Short s es) (m : From least es) (n : length es ≤ suc (f - s)) (k : s ≤ f) (ih : Sprouts f) where
  P : List ℕ → Type 0
  P x = length x ≤ s

  parts : es ≡ take (group es) es ++ g.later
  parts = g.joined ∙ ap (λ (z : List Entry). z ++ g.later) (sym (group_take es g))

  below : {first : Bool} (w : Branch first es) → Good true 0 (after_own w.rest) (sprout f true (after_own w.rest))
  unfolding P
  below w =
      let q = short_rest s w.label w.rest w.long w.held (subst (Short s) w.taken (keys_left P (take (group es) es) g.later (subst (Short s) parts h))) in
      let c = ap length w.taken ∙ length_under w.label w.rest in
      ih (s - 1) true 0 (after_own w.rest) (after_rising w.rest w.rises) (after_short (s - 1) w.rest q.1) (after_from w.rest w.rises)
      (omega (arith, after_length w.rest, q.0, ap length parts, length-append (take (group es) es) g.later)) (λ e. refl)

  later : Good false (suc g.b) g.later (sprout f false g.later)
  unfolding P
  later =
      ih s false (suc g.b) g.later (rising_right (take (group es) es) g.later (ap rising (sym parts) ∙ r)) (keys_right P (take (group es) es) g.later (subst (Short s) parts h))
      g.over (omega (arith, group_sum es g, group_some es g)) (λ e. absurd (let z : ◌≡◌ {A = ℕ} 0 1 = cc in omega arith))

  lowest : least ≤ g.b
  lowest = first_least least g.b g.inside g.later g.held (subst (From least) g.joined m)

  sprouted : (first t : Bool) → eqb (group es) (length es) ≡ t → (first ≡ true → least ≡ 0) → 0 < f → Good first least es (sprout_node (sprout f) (stretch first es) (take (group es) es) (drop (group es) es))
  unfolding by_byte
  sprouted false t e z p = byte_good (sprout f) false least es g r refl lowest refl (below (by_byte false es g r refl)) later
  sprouted true false e z p =
      byte_good (sprout f) true least es g r e lowest
      (sprout_some f false g.later p (length_some g.later (let c : group es ≡ length es → ⊥ = eqb-false (group es) (length es) e in omega (arith, group_sum es g)))) (below (by_byte true es g r e)) later
  sprouted true true e z p =
      let q = eqb-true (group es) (length es) e in
      let w = by_prefix es g r q in
      let c = prefix_cons (prefix_of es) (prefix_long w) in
      subst⁻¹ (λ (l : ℕ). Good true l es (sprout_node (sprout f) (stretch true es) (take (group es) es) (drop (group es) es))) (z refl)
      (run_good (sprout f) es g r q c.1.0 c.0 c.1.1 (sprout_none f false g.later (none_left g.later (omega (arith, group_sum es g)))) (below w))
    where
      prefix_long : Branch true es → 1 ≤ length (prefix_of es)
      prefix_long w = omega (arith, w.long, w.size, ap (λ (t : Bool). pick t (length (prefix_of es)) 1) (ap (both true) e))

key_long : (least : ℕ) (k : List ℕ) → StartsAt least k → 1 ≤ length k
key_long least [] h = absurd h
key_long least (b ∷ k) h = omega arith

starts_any : (least : ℕ) (k : List ℕ) → StartsAt least k → StartsAt 0 k
starts_any least [] h = h
starts_any least (b ∷ k) h = omega arith

sprout_next : (f : ℕ) → Sprouts f → Sprouts (suc f)
unfolding sprout entries_below
sprout_next f ih s first least [] r h m n z = record { kept = leaf; back = refl }
sprout_next f ih s first least (e ∷ es) r h m n z =
    let l = key_long least e.key m.0 in
    sprouted f s least (e ∷ es) (grouped e es r (starts_any least e.key m.0)) r h m (omega (arith, h.0)) (omega arith) ih first _ refl z (omega (arith, h.0))

sprout_zero : Sprouts 0
unfolding sprout entries_below
sprout_zero s first least [] r h m n z = record { kept = leaf; back = refl }
sprout_zero s first least (e ∷ es) r h m n z = absurd (omega arith)

sprout_good : (f : ℕ) → Sprouts f
sprout_good zero = sprout_zero
sprout_good (suc f) = sprout_next f (sprout_good f)

pub shape_sprout : (es : List Entry) → is_map es ≡ true → sprout 80 true es ≡ shape es
shape_sprout es m =
    let f = map_fit es m in
    let s = fit_short es f in
    let g = sprout_good 80 16 true 0 es (map_rising es m) s (fit_from es f) (omega (arith, map_length es m)) (λ e. refl) in
    sym (shape_of_canonical (sprout 80 true es) (rules_canonical g.kept) (subst⁻¹ (Short 16) g.back s)) ∙ ap shape g.back
