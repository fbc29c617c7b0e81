-- Rising entries taken apart as a node's children are: those that start like the first, and the others. Assumes nothing.
use mathlib.Core.Bool.{Bool, true, false}
use mathlib.Core.Path.{◌≡◌, refl, sym, ap, ap₂, ◌∙◌, subst}
use mathlib.Core.List.{List, [], ◌∷◌, ◌++◌, append-nil}
use Prim.Native.Nat.{ℕ, suc, ◌+◌, ◌≤◌}
use native.Mathlib.Nat.{le_refl}
use native.Mathlib.Omega.{arith}
use borrow.Author.Tests.{eq-eqb, ne_eqb, eqb-true}
use lib.Dec.{eqb}
use lib.ListN.{length, take, drop, length-append}
use lib.Seq.{take_at, drop_at, take-length}
use Rattle.octets.specs.Pick.{pick, both}
use Rattle.keys.specs.Entries.{Entry, entry, rising, all_above}
use Rattle.radix.specs.Shape.{first_byte, prefix_of, cut, longer, own, own_entry}
use Rattle.radix.specs.Sprout.{alike, group, stretch, own_first, after_own, first_key}
use Rattle.radix.proofs.Under.{under, cut_under, prefix_cut, length_under}
use Rattle.radix.proofs.Keys.{StartsAt, From}
use Rattle.keys.proofs.Laws.{Short, rising_left, rising_tail}
use Rattle.radix.proofs.Sorted.{part, rising_under, above_from, longer_some, own_longer}
use Rattle.radix.proofs.Rules.{NotEmpty, some_length, prefix_some, length_some}

alike_none : (b : ℕ) (es : List Entry) → From (suc b) es → alike b es ≡ 0
unfolding alike
alike_none b [] f = refl
alike_none b (e ∷ es) f = go e.key f.0
  where
    go : (k : List ℕ) → StartsAt (suc b) k → pick (eqb (first_byte k) b) (suc (alike b es)) 0 ≡ 0
    go [] h = absurd h
    go (c ∷ k) h = rw (ne_eqb c b (λ z. omega arith))

alike_under : (b : ℕ) (xs rest : List Entry) → From (suc b) rest → alike b (under (b ∷ []) xs ++ rest) ≡ length xs
unfolding alike
alike_under b [] rest f = alike_none b rest f
alike_under b (x ∷ xs) rest f = rw (eq-eqb b b refl) (ap suc (alike_under b xs rest f))

-- those that start with b, and those of larger first bytes
pub record Grouped (es : List Entry) : Type 0 where
  pub b : ℕ
  pub inside : List Entry
  pub later : List Entry
  pub joined : es ≡ under (b ∷ []) inside ++ later
  pub over : From (suc b) later
  pub held : NotEmpty inside
  pub size : group es ≡ length inside

pub grouped : (e : Entry) (es : List Entry) → rising (e ∷ es) ≡ true → StartsAt 0 e.key → Grouped (e ∷ es)
unfolding rising
grouped e es r s = go e.key e.value r s
  where
    go : (k : List ℕ) (v : ℕ) → all_above k es ≡ true → StartsAt 0 k → Grouped (entry k v ∷ es)
    go [] v r s = absurd s
    go (b ∷ k) v r s =
        let w = part b (b ∷ k) es (le_refl b) r in
        let g = ap (alike b) (sym w.joined) ∙ alike_under b w.inside _ w.over in
        record {
          b = b;
          inside = entry k v ∷ w.inside;
          later = _;
          joined = ap (λ (z : List Entry). entry (b ∷ k) v ∷ z) (sym w.joined);
          over = w.over;
          held = tt;
          size = ap suc g;
        }

module _ (es : List Entry) (g : Grouped es) where
  front : List Entry
  front = under (g.b ∷ []) g.inside

  front_size : length front ≡ group es
  unfolding front
  front_size = length_under (g.b ∷ []) g.inside ∙ sym g.size

  pub group_take : take (group es) es ≡ under (g.b ∷ []) g.inside
  unfolding front
  group_take = ap (take (group es)) g.joined ∙ take_at front g.later (group es) front_size

  pub group_drop : drop (group es) es ≡ g.later
  unfolding front
  group_drop = ap (drop (group es)) g.joined ∙ drop_at front g.later (group es) front_size

  pub group_sum : group es + length g.later ≡ length es
  unfolding front
  group_sum = omega (arith, ap length g.joined, length-append front g.later, front_size)

  pub group_some : 1 ≤ group es
  group_some = omega (arith, g.size, some_length g.inside g.held)

-- the label of the group, and what is left of its keys after it
pub record Branch (first : Bool) (es : List Entry) : Type 0 where
  pub label : List ℕ
  pub rest : List Entry
  pub size : length label ≡ stretch first es
  pub taken : take (group es) es ≡ under label rest
  pub held : NotEmpty rest
  pub rises : rising rest ≡ true
  pub long : 1 ≤ length label

module _ {first : Bool} {es : List Entry} (w : Branch first es) where
  pub branch_rest : cut (stretch first es) (take (group es) es) ≡ w.rest
  branch_rest = ap₂ cut (sym w.size) w.taken ∙ cut_under w.label w.rest

  label_first : (xs : List Entry) → NotEmpty xs → take (length w.label) (first_key (under w.label xs)) ≡ w.label
  label_first [] s = absurd s
  label_first (x ∷ xs) s = take_at w.label x.key (length w.label) refl

  pub branch_label : take (stretch first es) (first_key (take (group es) es)) ≡ w.label
  branch_label = ap₂ (λ (n : ℕ) (z : List Entry). take n (first_key z)) (sym w.size) w.taken ∙ label_first w.rest w.held

-- a first byte alone, or all that the keys share
unfoldable pub by_byte : (first : Bool) (es : List Entry) (g : Grouped es) → rising es ≡ true → both first (eqb (group es) (length es)) ≡ false → Branch first es
by_byte first es g r e =
    record {
      label = g.b ∷ [];
      rest = g.inside;
      size = sym (ap (λ (t : Bool). pick t (length (prefix_of es)) 1) e);
      taken = group_take es g;
      held = g.held;
      rises = sym (rising_under (g.b ∷ []) g.inside) ∙ rising_left (under (g.b ∷ []) g.inside) g.later (ap rising (sym g.joined) ∙ r);
      long = omega arith;
    }

pub none_left : (l : List Entry) → length l ≡ 0 → l ≡ []
none_left [] h = refl
none_left (x ∷ l) h = absurd (omega arith)

unfoldable pub by_prefix : (es : List Entry) (g : Grouped es) → rising es ≡ true → group es ≡ length es → Branch true es
by_prefix es g r e =
    let p = prefix_of es in
    let xs = cut (length p) es in
    let c : es ≡ under p xs = prefix_cut es in
    let n : g.later ≡ [] = none_left g.later (omega (arith, group_sum es g)) in
    let f : es ≡ under (g.b ∷ []) g.inside = g.joined ∙ ap (λ (z : List Entry). under (g.b ∷ []) g.inside ++ z) n ∙ append-nil (under (g.b ∷ []) g.inside) in
    let l = ap length (ap prefix_of f ∙ prefix_some (g.b ∷ []) g.inside g.held) in
    record {
      label = p;
      rest = xs;
      size = sym (ap (λ (t : Bool). pick t (length p) 1) (eq-eqb (group es) (length es) e));
      taken = ap (λ (k : ℕ). take k es) e ∙ take-length es ∙ c;
      held = length_some xs (omega (arith, ap length c, length_under p xs, group_some es g, e));
      rises = sym (rising_under p xs) ∙ ap rising (sym c) ∙ r;
      long = omega arith;
    }

pub branch : (first : Bool) (es : List Entry) → Grouped es → rising es ≡ true → Branch first es
branch first es g r = go first (eqb (group es) (length es)) refl
  where
    go : (first t : Bool) → eqb (group es) (length es) ≡ t → Branch first es
    go false t e = by_byte false es g r refl
    go true false e = by_byte true es g r e
    go true true e = by_prefix es g r (eqb-true (group es) (length es) e)

-- the key that ends at the label comes first
pub own_after : (es : List Entry) → own_entry [] (own_first es) ++ after_own es ≡ es
own_after [] = refl
own_after (e ∷ es) = go e.key e.value
  where
    go : (k : List ℕ) (v : ℕ) → own_entry [] (own_first (entry k v ∷ es)) ++ after_own (entry k v ∷ es) ≡ entry k v ∷ es
    go [] v = refl
    go (b ∷ k) v = refl

pub after_from : (es : List Entry) → rising es ≡ true → From 0 (after_own es)
unfolding rising own longer
after_from [] r = tt
after_from (e ∷ es) r = go e.key e.value r
  where
    go : (k : List ℕ) (v : ℕ) → all_above k es ≡ true → From 0 (after_own (entry k v ∷ es))
    go [] v r =
        let p : entry [] v ∷ longer es ≡ entry [] v ∷ es = own_longer (entry [] v ∷ es) r in
        let q : longer es ≡ es = cc in
        subst (From 0) q (longer_some (entry [] v ∷ es) r)
    go (b ∷ k) v r = (omega arith, above_from 0 (b ∷ k) es (omega arith) r)

pub after_rising : (es : List Entry) → rising es ≡ true → rising (after_own es) ≡ true
unfolding rising
after_rising [] r = refl
after_rising (e ∷ es) r = go e.key e.value r
  where
    go : (k : List ℕ) (v : ℕ) → all_above k es ≡ true → rising (after_own (entry k v ∷ es)) ≡ true
    go [] v r = rising_tail [] es r
    go (b ∷ k) v r = r

pub after_short : (n : ℕ) (es : List Entry) → Short n es → Short n (after_own es)
after_short n [] h = tt
after_short n (e ∷ es) h = go e.key e.value h
  where
    go : (k : List ℕ) (v : ℕ) → Short n (entry k v ∷ es) → Short n (after_own (entry k v ∷ es))
    go [] v h = h.1
    go (b ∷ k) v h = h

pub after_length : (es : List Entry) → length (after_own es) ≤ length es
after_length [] = omega arith
after_length (e ∷ es) = go e.key e.value
  where
    go : (k : List ℕ) (v : ℕ) → length (after_own (entry k v ∷ es)) ≤ suc (length es)
    go [] v = omega arith
    go (b ∷ k) v = omega arith
