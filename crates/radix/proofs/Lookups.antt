-- Find by a walk down a shape is lookup. Assumes nothing.
use mathlib.Core.Path.{◌≡◌, refl, sym, ap, ap₂, ◌∙◌}
use mathlib.Core.Bool.{Bool, true, false, true≢false}
use mathlib.Core.List.{List, [], ◌∷◌, ◌++◌}
use Rattle.std.proofs.Common.{Option, Some, None}
use Prim.Native.Nat.{ℕ, suc}
use native.Mathlib.Omega.{arith}
use lib.ListN.{length, drop}
use borrow.Author.Tests.{eq-eqb, ne_eqb}
use Rattle.octets.specs.Pick.{pick}
use Rattle.std.specs.Option.{option_or}
use Rattle.octets.specs.Compare.{same}
use Rattle.octets.proofs.Laws.{same_true}
use Rattle.keys.specs.Entries.{Entry, lookup, is_map}
use Rattle.radix.specs.Shape.{Shape, nil, node, own_entry, entries_below, shape, starts_with}
use Rattle.radix.specs.Walk.{reached, find_in}
use Rattle.radix.proofs.Under.{under, remainders, entries_node}
use Rattle.radix.proofs.Keys.{StartsAt, From, keys_below}
use Rattle.keys.proofs.Laws.{keys_map, is_false, lookup_append, lookup_none, or_none_lem}
use Rattle.radix.proofs.Labels.{starts_split, starts_append}
use Rattle.radix.proofs.Rules.{Rules, leaf, only, one_of, canonical_from, rules_from}
use Rattle.radix.proofs.Back.{shape_back, shape_rules}

same_under : (l a b : List ℕ) → same (l ++ a) (l ++ b) ≡ same a b
unfolding same
same_under [] a b = refl
same_under (x ∷ l) a b = rw (eq-eqb x x refl) (same_under l a b)

same_not : (l k x : List ℕ) → starts_with l k ≡ false → same k (l ++ x) ≡ false
same_not l k x h = is_false (same k (l ++ x)) (λ e. true≢false (sym (ap (starts_with l) (same_true k (l ++ x) e) ∙ starts_append l x) ∙ h))

same_over : (a : ℕ) (k x : List ℕ) → StartsAt (suc a) x → same (a ∷ k) x ≡ false
unfolding same
same_over a k [] h = absurd h
same_over a k (b ∷ x) h = rw (ne_eqb a b (λ e. omega arith))

lookup_under : (l k : List ℕ) (es : List Entry) → lookup (l ++ k) (under l es) ≡ lookup k es
unfolding lookup
lookup_under l k [] = refl
lookup_under l k (e ∷ es) = ap₂ (λ (t : Bool) (o : Option ℕ). pick t (Some e.value) o) (same_under l k e.key) (lookup_under l k es)

-- the value at a node, and those below it
lookup_remainders : (v : Option ℕ) (es : List Entry) → From 0 es → (k : List ℕ) → lookup k (own_entry [] v ++ es) ≡ reached k v (lookup k es)
unfolding lookup same
lookup_remainders None es f [] = lookup_none [] es (keys_map (StartsAt 0) (λ (x : List ℕ). same [] x ≡ false) go es f)
  where
    go : (x : List ℕ) → StartsAt 0 x → same [] x ≡ false
    go [] h = absurd h
    go (b ∷ x) h = refl
lookup_remainders (Some v) es f [] = refl
lookup_remainders None es f (b ∷ k) = refl
lookup_remainders (Some v) es f (b ∷ k) = refl

-- by the label
module _ (a : ℕ) (l k : List ℕ) (xs ys : List Entry) where
  lookup_into : starts_with (a ∷ l) k ≡ true → From (suc a) ys → lookup k (under (a ∷ l) xs ++ ys) ≡ lookup (drop (length (a ∷ l)) k) xs
  lookup_into h f =
      let r = drop (length (a ∷ l)) k in
      ap (λ (z : List ℕ). lookup z (under (a ∷ l) xs ++ ys)) (starts_split (a ∷ l) k h)
      ∙ lookup_append (a ∷ l ++ r) (under (a ∷ l) xs) ys
      ∙ ap₂ option_or (lookup_under (a ∷ l) r xs) (lookup_none (a ∷ l ++ r) ys (keys_map (StartsAt (suc a)) (λ (x : List ℕ). same (a ∷ l ++ r) x ≡ false) (same_over a (l ++ r)) ys f))
      ∙ or_none_lem (lookup r xs)

  lookup_past : starts_with (a ∷ l) k ≡ false → lookup k (under (a ∷ l) xs ++ ys) ≡ lookup k ys
  lookup_past h =
      lookup_append k (under (a ∷ l) xs) ys
      ∙ ap (λ (o : Option ℕ). option_or o (lookup k ys))
      (lookup_none k (under (a ∷ l) xs) (keys_below (λ (x : List ℕ). same k x ≡ false) (a ∷ l) (λ x. same_not (a ∷ l) k x h) xs))

find_node : (a : ℕ) (l : List ℕ) (v : Option ℕ) (below later : Shape) → From 0 (entries_below [] below) → From (suc a) (entries_below [] later)
    → ((k : List ℕ) → find_in below k ≡ lookup k (entries_below [] below)) → ((k : List ℕ) → find_in later k ≡ lookup k (entries_below [] later))
    → (k : List ℕ) → find_in (node (a ∷ l) v below later) k ≡ lookup k (entries_below [] (node (a ∷ l) v below later))
unfolding find_in
find_node a l v below later f g p q k =
    go (starts_with (a ∷ l) k) refl ∙ ap (lookup k) (sym (entries_node [] (a ∷ l) v below later))
  where
    go : (t : Bool) → starts_with (a ∷ l) k ≡ t
        → pick t (reached (drop (length (a ∷ l)) k) v (find_in below (drop (length (a ∷ l)) k))) (find_in later k)
        ≡ lookup k (under (a ∷ l) (remainders v below) ++ entries_below [] later)
    go true e =
        let r = drop (length (a ∷ l)) k in
        sym (lookup_into a l k (remainders v below) (entries_below [] later) e g ∙ lookup_remainders v (entries_below [] below) f r ∙ ap (reached r v) (sym (p r)))
    go false e = q k ∙ sym (lookup_past a l k (remainders v below) (entries_below [] later) e)

pub rules_find : {first : Bool} {least : ℕ} {s : Shape} → Rules first least s → (k : List ℕ) → find_in s k ≡ lookup k (entries_below [] s)
unfolding find_in entries_below lookup
rules_find leaf k = refl
rules_find (only {a = a} {l = l} {v = v} {below = below} e b) k = find_node a l v below nil (canonical_from b) tt (rules_find b) (λ k. refl) k
rules_find (one_of {a = a} {v = v} {below = below} {later = later} n h e b m) k =
    find_node a [] v below later (canonical_from b) (rules_from m) (rules_find b) (rules_find m) k

pub shape_find : (es : List Entry) → is_map es ≡ true → (k : List ℕ) → find_in (shape es) k ≡ lookup k es
shape_find es m k = rules_find (shape_rules es m) k ∙ ap (lookup k) (shape_back es m)
