-- A shape that keeps the rules is the shape of its entries. Assumes nothing.
use mathlib.Core.Path.{◌≡◌, refl, sym, ap, ◌∙◌, subst}
use mathlib.Core.Bool.{Bool, true, false, not, true≢false}
use mathlib.Core.List.{List, [], ◌∷◌, ◌++◌, append-nil, cons≢nil}
use Rattle.std.proofs.Common.{Option, Some, None}
use Prim.Native.Nat.{ℕ, suc, ◌≤◌, ◌<◌}
use native.Mathlib.Omega.{arith}
use lib.ListN.{length}
use borrow.Author.Tests.{eq-eqb}
use Rattle.octets.specs.Pick.{pick, both}
use Rattle.keys.specs.Entries.{Entry, entry, rising, all_fit, is_map}
use Rattle.radix.specs.Shape.{Shape, nil, node, own, longer, own_entry, common, prefix_of, cut, entries_below, first_byte, starting_with, not_starting_with, children_of, shape}
use Rattle.radix.specs.Canon.{is_nil, is_end, is_held, canonical}
use Rattle.radix.proofs.Under.{under, remainders, entries_node, entries_only, cut_under, prefix_cut}
use Rattle.keys.proofs.Laws.{Keys, Short, keys_right, is_map_lem}
use Rattle.radix.proofs.Keys.{From, StartsAt, keys_below, longer_from, own_from_lem, starting_none, others_all}
use Rattle.radix.proofs.Fits.{fit_short}
use Rattle.radix.proofs.Back.{children_good}
use Rattle.radix.proofs.Rules.{Rules, leaf, only, one_of, NotEmpty, canonical_rules, canonical_from, rules_from, rules_rising, rules_some, end_held, held_entries, prefix_some}

-- the remainders at a node, taken apart again
longer_own : (v : Option ℕ) (es : List Entry) → From 0 es → longer (own_entry [] v ++ es) ≡ es
unfolding longer
longer_own None es f = longer_from 0 es f
longer_own (Some v) es f = longer_from 0 es f

own_own : (v : Option ℕ) (es : List Entry) → From 0 es → own (own_entry [] v ++ es) ≡ v
unfolding own
own_own None es f = own_from_lem 0 es f
own_own (Some v) es f = refl

first_over : (a c : ℕ) (k : List ℕ) → StartsAt (suc a) k → first_byte k ≡ c → a < c
first_over a c [] h e = absurd h
first_over a c (b ∷ k) h e = omega arith

module _ (a : ℕ) (rest : List Entry) (f : From (suc a) rest) where
  starting_under : (xs : List Entry) → starting_with a (under (a ∷ []) xs ++ rest) ≡ under (a ∷ []) xs
  unfolding starting_with
  starting_under [] = starting_none a rest f
  starting_under (x ∷ xs) = rw (eq-eqb a a refl) (ap (λ (z : List Entry). entry (a ∷ x.key) x.value ∷ z) (starting_under xs))

  others_under : (xs : List Entry) → not_starting_with a (under (a ∷ []) xs ++ rest) ≡ rest
  unfolding not_starting_with
  others_under [] = others_all a rest f
  others_under (x ∷ xs) = rw (eq-eqb a a refl) (others_under xs)

  -- two first bytes: no common prefix
  parted_prefix : (xs : List Entry) → NotEmpty xs → NotEmpty rest → prefix_of (under (a ∷ []) xs ++ rest) ≡ []
  parted_prefix [] h k = absurd h
  parted_prefix (x ∷ xs) h k =
      let zs = under (a ∷ []) (x ∷ xs) ++ rest in
      go (prefix_of zs) (cut (length (prefix_of zs)) zs) (prefix_cut zs)
    where
      over : (c : ℕ) (rs : List Entry) → NotEmpty rs → From (suc a) rs → Keys (λ (y : List ℕ). first_byte y ≡ c) rs → a < c
      over c [] h f g = absurd h
      over c (r ∷ rs) h f g = first_over a c r.key f.0 g.0

      go : (p : List ℕ) (ys : List Entry) → under (a ∷ []) (x ∷ xs) ++ rest ≡ under p ys → p ≡ []
      go [] ys e = refl
      go (c ∷ q) ys e =
          let g = subst (Keys (λ (y : List ℕ). first_byte y ≡ c)) (sym e) (keys_below (λ (y : List ℕ). first_byte y ≡ c) (c ∷ q) (λ k. refl) ys) in
          absurd (omega (arith, g.0, over c rest k f (keys_right (λ (y : List ℕ). first_byte y ≡ c) (under (a ∷ []) (x ∷ xs)) rest g)))

-- an only child's label is the longest common prefix
end_prefix : (v : Option ℕ) {below : Shape} → is_end v below ≡ true → Rules true 0 below → prefix_of (remainders v below) ≡ []
unfolding prefix_of common
end_prefix (Some v) {below} h r = go (entries_below [] below)
  where
    go : (es : List Entry) → prefix_of (entry [] v ∷ es) ≡ []
    go [] = refl
    go (e ∷ es) = refl
end_prefix None h leaf = absurd (true≢false (sym h))
end_prefix None h (only e b) = absurd (true≢false (sym h))
end_prefix None h (one_of {a = a} {v = v} {below = below} {later = later} n k e b m) =
    ap prefix_of (entries_node [] (a ∷ []) v below later)
    ∙ parted_prefix a (entries_below [] later) (rules_from m) (remainders v below) (held_entries v e b) (rules_some m n)

-- so the longest common prefix of all is an only child's label
abbrev sole_label : Shape → List ℕ
sole_label nil = []
sole_label (node l v below later) = pick (is_nil later) l []

rules_prefix : {least : ℕ} {s : Shape} → Rules true least s → prefix_of (entries_below [] s) ≡ sole_label s
unfolding entries_below prefix_of
rules_prefix leaf = refl
rules_prefix (only {a = a} {l = l} {v = v} {below = below} e b) =
    ap prefix_of (entries_only (a ∷ l) v below)
    ∙ prefix_some (a ∷ l) (remainders v below) (held_entries v (end_held v below e) b)
    ∙ ap (λ (z : List ℕ). a ∷ l ++ z) (end_prefix v e b)
    ∙ append-nil (a ∷ l)
rules_prefix (one_of {a = a} {v = v} {below = below} {later = later} n h e b m) =
    end_prefix None (ap not n) (one_of {least = 0} {a = a} {v = v} n (omega arith) e b m) ∙ sym (ap (λ (t : Bool). pick t (a ∷ []) []) n)

-- the parts of equal remainders, and of equal siblings, are equal
module _ (v w : Option ℕ) (below below' : Shape) (b : Rules true 0 below) (b' : Rules true 0 below') (q : remainders v below ≡ remainders w below') where
  own_one : v ≡ w
  own_one = sym (own_own v (entries_below [] below) (canonical_from b)) ∙ ap own q ∙ own_own w (entries_below [] below') (canonical_from b')

  below_one : entries_below [] below ≡ entries_below [] below'
  below_one = sym (longer_own v (entries_below [] below) (canonical_from b)) ∙ ap longer q ∙ longer_own w (entries_below [] below') (canonical_from b')

under_one : (l : List ℕ) (xs ys : List Entry) → under l xs ≡ under l ys → xs ≡ ys
under_one l xs ys q = sym (cut_under l xs) ∙ ap (cut (length l)) q ∙ cut_under l ys

-- no other shape has its entries
abbrev Alone : Bool → Shape → Type 0
Alone first s = (least : ℕ) (t : Shape) → Rules first least t → entries_below [] s ≡ entries_below [] t → s ≡ t

alone_leaf : (first : Bool) → Alone first nil
unfolding entries_below
alone_leaf first least nil r q = refl
alone_leaf first least (node l v below later) r q = absurd (subst NotEmpty (sym q) (rules_some r refl))

not_leaf : {first : Bool} {least : ℕ} {s : Shape} → Rules first least s → is_nil s ≡ false → entries_below [] s ≡ entries_below [] nil → ⊥
unfolding entries_below
not_leaf r n q = subst NotEmpty q (rules_some r n)

-- several children are no only child
run_apart : {m n a c : ℕ} {l : List ℕ} {v w : Option ℕ} {below below' later : Shape}
    → Rules true m (node (a ∷ l) v below nil) → Rules true n (node (c ∷ []) w below' later) → is_nil later ≡ false
    → entries_below [] (node (a ∷ l) v below nil) ≡ entries_below [] (node (c ∷ []) w below' later) → ⊥
run_apart {c = c} r s n q = cons≢nil (sym (rules_prefix r) ∙ ap prefix_of q ∙ rules_prefix s ∙ ap (λ (t : Bool). pick t (c ∷ []) []) n)

alone_only : {n a : ℕ} {l : List ℕ} {v : Option ℕ} {below : Shape} → Rules true n (node (a ∷ l) v below nil) → Rules true 0 below → Alone true below → Alone true (node (a ∷ l) v below nil)
alone_only s b ih least t leaf q = absurd (not_leaf s refl q)
alone_only {a = a} {l = l} {v = v} {below = below} s b ih least t (only {a = c} {l = k} {v = w} {below = below'} f b') q =
    let p = sym (rules_prefix s) ∙ ap prefix_of q ∙ rules_prefix (only {least = 0} {a = c} {l = k} f b') in
    let r = under_one (c ∷ k) (remainders v below) (remainders w below')
    (ap (λ (z : List ℕ). under z (remainders v below)) (sym p) ∙ sym (entries_only (a ∷ l) v below) ∙ q ∙ entries_only (c ∷ k) w below') in
    let o = own_one v w below below' b b' r in
    let i = ih 0 below' b' (below_one v w below below' b b' r) in
    (λ j. node (p j) (o j) (i j) nil)
alone_only s b ih least t (one_of {a = c} {v = w} n h f b' m) q = absurd (run_apart s (one_of {least = 0} {a = c} {v = w} n (omega arith) f b' m) n q)

-- siblings of one first byte
module _ (a : ℕ) (v w : Option ℕ) (below below' later later' : Shape) (b : Rules true 0 below) (b' : Rules true 0 below')
    (ih : Alone true below) (jh : Alone false later) (m : Rules false (suc a) later) where
  sibling_one : Rules false (suc a) later' → entries_below [] (node (a ∷ []) v below later) ≡ entries_below [] (node (a ∷ []) w below' later')
      → node (a ∷ []) v below later ≡ node (a ∷ []) w below' later'
  sibling_one m' q =
      let xs = remainders v below in
      let ys = remainders w below' in
      let u = sym (entries_node [] (a ∷ []) v below later) ∙ q ∙ entries_node [] (a ∷ []) w below' later' in
      let r = under_one (a ∷ []) xs ys (sym (starting_under a (entries_below [] later) (rules_from m) xs) ∙ ap (starting_with a) u ∙ starting_under a (entries_below [] later') (rules_from m') ys) in
      let z = sym (others_under a (entries_below [] later) (rules_from m) xs) ∙ ap (not_starting_with a) u ∙ others_under a (entries_below [] later') (rules_from m') ys in
      let o = own_one v w below below' b b' r in
      let i = ih 0 below' b' (below_one v w below below' b b' r) in
      let k = jh (suc a) later' m' z in
      (λ j. node (a ∷ []) (o j) (i j) (k j))

head_byte : List Entry → ℕ
head_byte [] = 0
head_byte (e ∷ es) = first_byte e.key

head_under : (a : ℕ) (xs ys : List Entry) → NotEmpty xs → head_byte (under (a ∷ []) xs ++ ys) ≡ a
unfolding head_byte
head_under a [] ys h = absurd h
head_under a (x ∷ xs) ys h = refl

head_node : (a : ℕ) (v : Option ℕ) (below later : Shape) → is_held v below ≡ true → Rules true 0 below → head_byte (entries_below [] (node (a ∷ []) v below later)) ≡ a
head_node a v below later e b = ap head_byte (entries_node [] (a ∷ []) v below later) ∙ head_under a (remainders v below) (entries_below [] later) (held_entries v e b)

alone_one_of : (first : Bool) (a : ℕ) (v : Option ℕ) (below later : Shape)
    → both first (is_nil later) ≡ false → is_held v below ≡ true → Rules true 0 below → Rules false (suc a) later
    → Alone true below → Alone false later → Alone first (node (a ∷ []) v below later)
alone_one_of first a v below later n e b m ih jh least t leaf q = absurd (not_leaf (one_of {first = first} {least = 0} {a = a} {v = v} n (omega arith) e b m) refl q)
alone_one_of first a v below later n e b m ih jh least t (only {a = c} {l = k} {v = w} f b') q =
    absurd (run_apart (only {least = 0} {a = c} {l = k} {v = w} f b') (one_of {least = 0} {a = a} {v = v} n (omega arith) e b m) n (sym q))
alone_one_of first a v below later n e b m ih jh least t (one_of {a = c} {v = w} {below = below'} {later = later'} n' h f b' m') q =
    let p = sym (head_node a v below later e b) ∙ ap head_byte q ∙ head_node c w below' later' f b' in
    subst (λ (z : ℕ). Rules false (suc z) later' → entries_below [] (node (a ∷ []) v below later) ≡ entries_below [] (node (z ∷ []) w below' later') → node (a ∷ []) v below later ≡ node (z ∷ []) w below' later')
    p (sibling_one a v w below below' later later' b b' ih jh m) m' q

alone : {first : Bool} {least : ℕ} {s : Shape} → Rules first least s → Alone first s
alone {first} leaf = alone_leaf first
alone (only {a = a} {l = l} {v = v} e b) = alone_only (only {least = 0} {a = a} {l = l} {v = v} e b) b (alone b)
alone (one_of {first = first} {a = a} {v = v} {below = below} {later = later} n h e b m) = alone_one_of first a v below later n e b m (alone b) (alone m)

-- so a record's tree holds one map only
pub canonical_one : (s t : Shape) → canonical s ≡ true → canonical t ≡ true → entries_below [] s ≡ entries_below [] t → s ≡ t
canonical_one s t c d = alone (canonical_rules s c) 0 t (canonical_rules t d)

module _ (s : Shape) (c : canonical s ≡ true) where
  pub canonical_rising : rising (entries_below [] s) ≡ true
  canonical_rising = rules_rising (canonical_rules s c)

  pub canonical_keys : From 0 (entries_below [] s)
  canonical_keys = canonical_from (canonical_rules s c)

  pub shape_of_canonical : Short 16 (entries_below [] s) → shape (entries_below [] s) ≡ s
  unfolding shape
  shape_of_canonical h =
      let es = entries_below [] s in
      let r = canonical_rules s c in
      let g = children_good 16 es canonical_rising h in
      sym (alone r 0 (children_of 16 es) g.kept (sym (g.back ∙ longer_from 0 es (canonical_from r))))

  pub shape_of_fitting : all_fit (entries_below [] s) ≡ true → shape (entries_below [] s) ≡ s
  shape_of_fitting f = shape_of_canonical (fit_short (entries_below [] s) f)

  pub canonical_map : length (entries_below [] s) ≤ 64 → all_fit (entries_below [] s) ≡ true → is_map (entries_below [] s) ≡ true
  canonical_map n f = is_map_lem (entries_below [] s) n canonical_rising f
