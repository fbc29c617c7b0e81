-- The last key at or below, by a walk down a shape, is last_up_to. Assumes nothing.
use mathlib.Core.Path.{◌≡◌, refl, sym, ap, ap₂, ◌∙◌}
use mathlib.Core.Bool.{Bool, true, false}
use mathlib.Core.List.{List, [], ◌∷◌, ◌++◌, append_assoc}
use Rattle.std.proofs.Common.{Option, Some, None}
use Prim.Native.Nat.{ℕ, suc}
use lib.ListN.{length, drop}
use borrow.Author.Tests.{not-true}
use Rattle.octets.specs.Pick.{pick}
use Rattle.std.specs.Option.{option_or}
use Rattle.keys.specs.Entries.{Entry, last_up_to, is_map}
use Rattle.octets.specs.Compare.{comes_before}
use Rattle.radix.specs.Shape.{Shape, nil, node, own_entry, entries_below, shape, starts_with}
use Rattle.radix.specs.Canon.{is_nil, is_held, canonical}
use Rattle.radix.specs.Walk.{own_of, greatest_in, seek_last, last_in}
use Rattle.radix.proofs.Laws.{under, remainders, entries_node, entries_before, remainders_under, StartsAt, From, keys_under, keys_below, before_under, before_over, starts_split, after_all, after_keep, Rules, leaf, only, one_of, NotEmpty, some_under, rules_from, end_held, held_entries, canonical_rules, shape_back, shape_canonical}
use Rattle.keys.proofs.Laws.{Keys, or_none_lem}
use Rattle.radix_walk.proofs.FirstAbove.{or_assoc, some_at, own_keys_lem}

-- the last entry, or what stands before
abbrev last_of : List Entry → Option Entry → Option Entry
last_of [] best = best
last_of (e ∷ es) best = last_of es (Some e)

last_append : (xs ys : List Entry) (best : Option Entry) → last_of (xs ++ ys) best ≡ last_of ys (last_of xs best)
last_append [] ys best = refl
last_append (x ∷ xs) ys best = last_append xs ys (Some x)

last_some : (es : List Entry) (a b : Option Entry) → NotEmpty es → last_of es a ≡ last_of es b
last_some [] a b h = absurd h
last_some (e ∷ es) a b h = refl

last_own : (k : List ℕ) (v : Option ℕ) (best : Option Entry) → last_of (own_entry k v) best ≡ option_or (own_of k v) best
last_own k None best = refl
last_own k (Some v) best = refl

-- the last entry at a node, below it or after it
last_parts : (k : List ℕ) (v : Option ℕ) (xs ys : List Entry) (best : Option Entry) → last_of (own_entry k v ++ (xs ++ ys)) best ≡ last_of ys (last_of xs (option_or (own_of k v) best))
last_parts k v xs ys best =
    last_append (own_entry k v) (xs ++ ys) best ∙ last_append xs ys (last_of (own_entry k v) best) ∙ ap (λ (o : Option Entry). last_of ys (last_of xs o)) (last_own k v best)

greatest_node : (before l : List ℕ) (v : Option ℕ) {below : Shape} → Rules true 0 below → greatest_in (before ++ l) below ≡ last_of (entries_below (before ++ l) below) None
    → greatest_in before (node l v below nil) ≡ last_of (entries_below (before ++ l) below) (own_of (before ++ l) v)
unfolding greatest_in entries_below
greatest_node before l v {below = nil} b p = refl
greatest_node before l v {below = node m w deeper later} b p = p ∙ last_some (entries_below (before ++ l) (node m w deeper later)) None (own_of (before ++ l) v) (some_at (before ++ l) b refl)

-- beside later siblings
greatest_beside : {first : Bool} {least : ℕ} (before l : List ℕ) (v : Option ℕ) {below later : Shape} → Rules true 0 below → Rules first least later
    → greatest_in (before ++ l) below ≡ last_of (entries_below (before ++ l) below) None → greatest_in before later ≡ last_of (entries_below before later) None
    → greatest_in before (node l v below later) ≡ last_of (entries_below before (node l v below later)) None
unfolding greatest_in entries_below
greatest_beside before l v {below} {later = nil} b r p q =
    greatest_node before l v b p
    ∙ sym (last_parts (before ++ l) v (entries_below (before ++ l) below) [] None ∙ ap (last_of (entries_below (before ++ l) below)) (or_none_lem (own_of (before ++ l) v)))
greatest_beside before l v {below} {later = node m w deeper later} b r p q =
    q
    ∙ last_some (entries_below before (node m w deeper later)) None (last_of (entries_below (before ++ l) below) (option_or (own_of (before ++ l) v) None)) (some_at before r refl)
    ∙ sym (last_parts (before ++ l) v (entries_below (before ++ l) below) (entries_below before (node m w deeper later)) None)

greatest_last : {first : Bool} {least : ℕ} (before : List ℕ) {s : Shape} → Rules first least s → greatest_in before s ≡ last_of (entries_below before s) None
unfolding greatest_in entries_below
greatest_last before leaf = refl
greatest_last before (only {a = a} {l = l} {v = v} e b) =
    greatest_beside {first = true} {least = 0} before (a ∷ l) v b leaf (greatest_last (before ++ (a ∷ l)) b) refl
greatest_last before (one_of {a = a} {v = v} n h e b m) =
    greatest_beside before (a ∷ []) v b m (greatest_last (before ++ (a ∷ [])) b) (greatest_last before m)

-- a node that holds a key needs nothing from before
held_last : (k : List ℕ) (v : Option ℕ) {below : Shape} (best : Option Entry) → is_held v below ≡ true → Rules true 0 below
    → last_of (entries_below k below) (own_of k v) ≡ last_of (entries_below k below) (option_or (own_of k v) best)
held_last k None {below} best h b = last_some (entries_below k below) None best (some_at k b (not-true (is_nil below) h))
held_last k (Some v) best h b = refl

-- last_up_to of a list in two parts: the second is above the key; the first begins above it; the first is not above it
last_skip : (k : List ℕ) (xs ys : List Entry) → Keys (λ (x : List ℕ). comes_before k x ≡ true) ys → last_up_to k (xs ++ ys) ≡ last_up_to k xs
unfolding last_up_to
last_skip k [] [] h = refl
last_skip k [] (y ∷ ys) h = rw h.0
last_skip k (x ∷ xs) ys h = ap (λ (o : Option Entry). pick (comes_before k x.key) None (option_or o (Some x))) (last_skip k xs ys h)

last_none : (k : List ℕ) (xs ys : List Entry) → NotEmpty xs → Keys (λ (x : List ℕ). comes_before k x ≡ true) xs → last_up_to k (xs ++ ys) ≡ None
unfolding last_up_to
last_none k [] ys w h = absurd w
last_none k (x ∷ xs) ys w h = rw h.0

last_passed : (k : List ℕ) (xs ys : List Entry) (best : Option Entry) → Keys (λ (x : List ℕ). comes_before k x ≡ false) xs
    → option_or (last_up_to k (xs ++ ys)) best ≡ option_or (last_up_to k ys) (last_of xs best)
unfolding last_up_to
last_passed k [] ys best h = refl
last_passed k (x ∷ xs) ys best h = rw h.0 (or_assoc (last_up_to k (xs ++ ys)) (Some x) best ∙ last_passed k xs ys (Some x) h.1)

-- what a label leads to, and what its later siblings do, against a key
module _ (before : List ℕ) (a : ℕ) (l k : List ℕ) (t : Bool) where
  other_side : ((x : List ℕ) → comes_before k (a ∷ l ++ x) ≡ t) → (es : List Entry)
      → Keys (λ (x : List ℕ). comes_before (before ++ k) x ≡ t) (under (before ++ (a ∷ l)) es)
  other_side h = keys_below (λ (x : List ℕ). comes_before (before ++ k) x ≡ t) (before ++ (a ∷ l))
      (λ x. ap (comes_before (before ++ k)) (append_assoc before (a ∷ l) x) ∙ before_under before k (a ∷ l ++ x) ∙ h x)

module _ (before : List ℕ) (a : ℕ) (k : List ℕ) (later : Shape) (f : From (suc a) (entries_below [] later)) where
  later_over : Keys (λ (x : List ℕ). comes_before (before ++ (a ∷ k)) x ≡ true) (entries_below before later)
  later_over =
      rw (entries_before before later)
      (keys_under (StartsAt (suc a)) (λ (x : List ℕ). comes_before (before ++ (a ∷ k)) x ≡ true) before
      (λ x h. before_under before (a ∷ k) x ∙ before_over a k x h) (entries_below [] later) f)

-- what a walk at or below finds
abbrev Seeks : List ℕ → Shape → Type 0
Seeks before s = (k : List ℕ) (best : Option Entry) → seek_last before s k best ≡ option_or (last_up_to (before ++ k) (entries_below before s)) best

module _ (before : List ℕ) (a : ℕ) (l : List ℕ) (v : Option ℕ) (below later : Shape) (h : is_held v below ≡ true) (b : Rules true 0 below) where
  -- the node and all after it is above the key
  last_at_lem : (k : List ℕ) → comes_before k (a ∷ l) ≡ true → last_up_to (before ++ k) (entries_below before (node (a ∷ l) v below later)) ≡ None
  last_at_lem k n =
      let xs = remainders v below in
      rw (entries_node before (a ∷ l) v below later)
      (last_none (before ++ k) (under (before ++ (a ∷ l)) xs) (entries_below before later) (some_under (before ++ (a ∷ l)) xs (held_entries v h b)) (other_side before a l k true (λ x. after_all (a ∷ l) k x n) xs))

  -- the key starts with the label
  last_into : (r : List ℕ) (best : Option Entry) → comes_before (a ∷ l ++ r) (a ∷ l) ≡ false → From (suc a) (entries_below [] later) → Seeks (before ++ (a ∷ l)) below
      → seek_last (before ++ (a ∷ l)) below r (option_or (own_of (before ++ (a ∷ l)) v) best)
      ≡ option_or (last_up_to (before ++ (a ∷ l ++ r)) (entries_below before (node (a ∷ l) v below later))) best
  unfolding entries_below
  last_into r best n f ih =
      let k = before ++ (a ∷ l ++ r) in
      let o = own_entry (before ++ (a ∷ l)) v in
      let c = entries_below (before ++ (a ∷ l)) below in
      let d = entries_below before later in
      let w = option_or (own_of (before ++ (a ∷ l)) v) best in
      ih r w
      ∙ ap (λ (z : List ℕ). option_or (last_up_to z c) w) (append_assoc before (a ∷ l) r)
      ∙ sym (last_passed k o (c ++ d) best (own_keys_lem (λ (x : List ℕ). comes_before k x ≡ false) (before ++ (a ∷ l)) v (before_under before (a ∷ l ++ r) (a ∷ l) ∙ n))
      ∙ ap₂ option_or (last_skip k c d (later_over before a (l ++ r) later f)) (last_own (before ++ (a ∷ l)) v best))

  -- the node and what stands below it is below the key
  last_past : (k : List ℕ) (best : Option Entry) → comes_before k (a ∷ l) ≡ false → starts_with (a ∷ l) k ≡ false
      → option_or (last_up_to (before ++ k) (entries_below before later)) (greatest_in before (node (a ∷ l) v below nil))
      ≡ option_or (last_up_to (before ++ k) (entries_below before (node (a ∷ l) v below later))) best
  last_past k best n s =
      let lab = before ++ (a ∷ l) in
      let xs = remainders v below in
      let c = entries_below lab below in
      let d = entries_below before later in
      ap (option_or (last_up_to (before ++ k) d))
      (greatest_node before (a ∷ l) v b (greatest_last lab b)
      ∙ held_last lab v best h b
      ∙ ap (last_of c) (sym (last_own lab v best))
      ∙ sym (last_append (own_entry lab v) c best)
      ∙ ap (λ (z : List Entry). last_of z best) (remainders_under lab v below))
      ∙ sym (last_passed (before ++ k) (under lab xs) d best (other_side before a l k false (λ x. after_keep (a ∷ l) k x n s) xs))
      ∙ ap (λ (z : List Entry). option_or (last_up_to (before ++ k) z) best) (sym (entries_node before (a ∷ l) v below later))

  seeks_node : Rules false (suc a) later → Seeks (before ++ (a ∷ l)) below → Seeks before later → Seeks before (node (a ∷ l) v below later)
  unfolding seek_last
  seeks_node m p q k best = go (comes_before k (a ∷ l)) (starts_with (a ∷ l) k) refl refl
    where
      go : (t u : Bool) → comes_before k (a ∷ l) ≡ t → starts_with (a ∷ l) k ≡ u
          → pick t best
          (pick u (seek_last (before ++ (a ∷ l)) below (drop (length (a ∷ l)) k) (option_or (own_of (before ++ (a ∷ l)) v) best))
          (seek_last before later k (greatest_in before (node (a ∷ l) v below nil))))
          ≡ option_or (last_up_to (before ++ k) (entries_below before (node (a ∷ l) v below later))) best
      go true u n s = ap (λ (o : Option Entry). option_or o best) (sym (last_at_lem k n))
      go false true n s =
          let e = starts_split (a ∷ l) k s in
          last_into (drop (length (a ∷ l)) k) best (ap (λ (z : List ℕ). comes_before z (a ∷ l)) (sym e) ∙ n) (rules_from m) p
          ∙ ap (λ (z : List ℕ). option_or (last_up_to (before ++ z) (entries_below before (node (a ∷ l) v below later))) best) (sym e)
      go false false n s = q k (greatest_in before (node (a ∷ l) v below nil)) ∙ last_past k best n s

pub rules_last : {first : Bool} {least : ℕ} (before : List ℕ) {s : Shape} → Rules first least s → Seeks before s
unfolding seek_last entries_below last_up_to
rules_last before leaf k best = refl
rules_last before (only {a = a} {l = l} {v = v} {below = below} e b) k best =
    seeks_node before a l v below nil (end_held v below e) b leaf (rules_last (before ++ (a ∷ l)) b) (λ k best. refl) k best
rules_last before (one_of {a = a} {v = v} {below = below} {later = later} n h e b m) k best =
    seeks_node before a [] v below later e b m (rules_last (before ++ (a ∷ [])) b) (rules_last before m) k best

pub canonical_last : (s : Shape) → canonical s ≡ true → (k : List ℕ) → last_in [] s k ≡ last_up_to k (entries_below [] s)
unfolding last_in
canonical_last s c k = rules_last [] (canonical_rules s c) k None ∙ or_none_lem (last_up_to k (entries_below [] s))

pub shape_last : (es : List Entry) → is_map es ≡ true → (k : List ℕ) → last_in [] (shape es) k ≡ last_up_to k es
shape_last es m k = canonical_last (shape es) (shape_canonical es m) k ∙ ap (last_up_to k) (shape_back es m)
