-- The first key at or above, by a walk down a shape, is first_from. Assumes nothing.
use mathlib.Core.Path.{◌≡◌, refl, sym, ap, ap₂, ◌∙◌}
use mathlib.Core.Bool.{Bool, true, false}
use mathlib.Core.List.{List, [], ◌∷◌, ◌++◌, append_assoc}
use Rattle.std.proofs.Common.{Option, Some, None}
use Prim.Native.Nat.{ℕ, suc}
use lib.ListN.{length, drop}
use borrow.Author.Tests.{not-true}
use Rattle.octets.proofs.Options.{head_of}
use Rattle.octets.specs.Pick.{pick}
use Rattle.std.specs.Option.{option_or}
use Rattle.keys.specs.Entries.{Entry, first_from, is_map}
use Rattle.octets.specs.Compare.{comes_before}
use Rattle.radix.specs.Shape.{Shape, nil, node, own_entry, entries_below, shape, starts_with}
use Rattle.radix.specs.Canon.{is_nil, is_held, canonical}
use Rattle.radix.specs.Walk.{least_in, least_or, seek_first, first_in}
use Rattle.radix.proofs.Laws.{under, remainders, entries_node, entries_before, StartsAt, From, keys_under, keys_below, before_under, starts_split, before_keep, before_all, Rules, leaf, only, one_of, NotEmpty, some_under, rules_some, rules_from, end_held, held_entries, canonical_rules, shape_back, shape_canonical}
use Rattle.keys.proofs.Laws.{Keys, before_greater, or_none_lem}

pub or_assoc : {A : Type 0} (a b c : Option A) → option_or (option_or a b) c ≡ option_or a (option_or b c)
or_assoc None b c = refl
or_assoc (Some a) b c = refl

or_some : (es : List Entry) (o : Option Entry) → NotEmpty es → option_or (head_of es) o ≡ head_of es
or_some [] o h = absurd h
or_some (e ∷ es) o h = refl

head_append : (xs ys : List Entry) → NotEmpty xs → head_of (xs ++ ys) ≡ head_of xs
head_append [] ys h = absurd h
head_append (x ∷ xs) ys h = refl

-- the entries of a node that the bytes `before` lead to
pub some_at : {first : Bool} {least : ℕ} (before : List ℕ) {s : Shape} → Rules first least s → is_nil s ≡ false → NotEmpty (entries_below before s)
some_at before {s} r h = rw (entries_before before s) (some_under before (entries_below [] s) (rules_some r h))

-- the first entry
least_node : (before l : List ℕ) (v : Option ℕ) (below later : Shape) → is_held v below ≡ true → Rules true 0 below
    → least_in (before ++ l) below ≡ head_of (entries_below (before ++ l) below) → least_in before (node l v below later) ≡ head_of (entries_below before (node l v below later))
unfolding least_in entries_below
least_node before l (Some v) below later h b p = refl
least_node before l None below later h b p = p ∙ sym (head_append (entries_below (before ++ l) below) (entries_below before later) (some_at (before ++ l) b (not-true (is_nil below) h)))

least_head : {first : Bool} {least : ℕ} (before : List ℕ) {s : Shape} → Rules first least s → least_in before s ≡ head_of (entries_below before s)
unfolding least_in entries_below
least_head before leaf = refl
least_head before (only {a = a} {l = l} {v = v} {below = below} e b) =
    least_node before (a ∷ l) v below nil (end_held v below e) b (least_head (before ++ (a ∷ l)) b)
least_head before (one_of {a = a} {v = v} {below = below} {later = later} n h e b m) =
    least_node before (a ∷ []) v below later e b (least_head (before ++ (a ∷ [])) b)

least_or_lem : {first : Bool} {least : ℕ} (before : List ℕ) {s : Shape} (above : Option Entry) → Rules first least s → least_or before s above ≡ option_or (head_of (entries_below before s)) above
unfolding entries_below
least_or_lem before {s = nil} above r = refl
least_or_lem before {s = node l v below later} above r =
    least_head before r ∙ sym (or_some (entries_below before (node l v below later)) above (some_at before r refl))

-- first_from of a list in two parts
first_append : (k : List ℕ) (xs ys : List Entry) → first_from k (xs ++ ys) ≡ option_or (first_from k xs) (first_from k ys)
unfolding first_from
first_append k [] ys = refl
first_append k (x ∷ xs) ys = go (comes_before x.key k) (first_append k xs ys)
  where
    go : (t : Bool) → first_from k (xs ++ ys) ≡ option_or (first_from k xs) (first_from k ys)
        → pick t (first_from k (xs ++ ys)) (Some x) ≡ option_or (pick t (first_from k xs) (Some x)) (first_from k ys)
    go true ih = ih
    go false ih = refl

first_none : (k : List ℕ) (es : List Entry) → Keys (λ (x : List ℕ). comes_before x k ≡ true) es → first_from k es ≡ None
unfolding first_from
first_none k [] h = refl
first_none k (e ∷ es) h = rw h.0 (first_none k es h.1)

first_head : (k : List ℕ) (es : List Entry) → Keys (λ (x : List ℕ). comes_before x k ≡ false) es → first_from k es ≡ head_of es
unfolding first_from
first_head k [] h = refl
first_head k (e ∷ es) h = rw h.0

-- what a label leads to, and what its later siblings do, against a key
module _ (before : List ℕ) (a : ℕ) (l k : List ℕ) (t : Bool) where
  side : ((x : List ℕ) → comes_before (a ∷ l ++ x) k ≡ t) → (es : List Entry)
      → Keys (λ (x : List ℕ). comes_before x (before ++ k) ≡ t) (under (before ++ (a ∷ l)) es)
  side h = keys_below (λ (x : List ℕ). comes_before x (before ++ k) ≡ t) (before ++ (a ∷ l))
      (λ x. ap (λ (z : List ℕ). comes_before z (before ++ k)) (append_assoc before (a ∷ l) x) ∙ before_under before (a ∷ l ++ x) k ∙ h x)

over_not : (a : ℕ) (k x : List ℕ) → StartsAt (suc a) x → comes_before x (a ∷ k) ≡ false
over_not a k [] h = absurd h
over_not a k (b ∷ x) h = before_greater b a x k h

module _ (before : List ℕ) (a : ℕ) (k : List ℕ) (later : Shape) (f : From (suc a) (entries_below [] later)) where
  later_not : Keys (λ (x : List ℕ). comes_before x (before ++ (a ∷ k)) ≡ false) (entries_below before later)
  later_not =
      rw (entries_before before later)
      (keys_under (StartsAt (suc a)) (λ (x : List ℕ). comes_before x (before ++ (a ∷ k)) ≡ false) before
      (λ x h. before_under before x (a ∷ k) ∙ over_not a k x h) (entries_below [] later) f)

first_some : (k : List ℕ) (xs ys : List Entry) (above : Option Entry) → NotEmpty xs → Keys (λ (x : List ℕ). comes_before x k ≡ false) xs
    → head_of (xs ++ ys) ≡ option_or (first_from k (xs ++ ys)) above
unfolding first_from
first_some k [] ys above w h = absurd w
first_some k (x ∷ xs) ys above w h = rw h.0

pub own_keys_lem : (P : List ℕ → Type 0) (k : List ℕ) (v : Option ℕ) → P k → Keys P (own_entry k v)
own_keys_lem P k None h = tt
own_keys_lem P k (Some v) h = (h, tt)

-- what a walk at or above finds
abbrev Seeks : List ℕ → Shape → Type 0
Seeks before s = (k : List ℕ) (above : Option Entry) → seek_first before s k above ≡ option_or (first_from (before ++ k) (entries_below before s)) above

module _ (before : List ℕ) (a : ℕ) (l : List ℕ) (v : Option ℕ) (below later : Shape) (h : is_held v below ≡ true) (b : Rules true 0 below) where
  -- the node and what stands below it is at or above the key
  first_at_lem : (k : List ℕ) (above : Option Entry) → comes_before (a ∷ l) k ≡ false
      → head_of (entries_below before (node (a ∷ l) v below later)) ≡ option_or (first_from (before ++ k) (entries_below before (node (a ∷ l) v below later))) above
  first_at_lem k above n =
      let xs = remainders v below in
      let g = under (before ++ (a ∷ l)) xs in
      rw (entries_node before (a ∷ l) v below later)
      (first_some (before ++ k) g (entries_below before later) above (some_under (before ++ (a ∷ l)) xs (held_entries v h b)) (side before a l k false (λ x. before_keep (a ∷ l) k x n) xs))

  -- the node is below it, and the key goes on
  first_into : (r : List ℕ) (above : Option Entry) → comes_before (a ∷ l) (a ∷ l ++ r) ≡ true → From (suc a) (entries_below [] later) → Seeks (before ++ (a ∷ l)) below
      → seek_first (before ++ (a ∷ l)) below r (option_or (head_of (entries_below before later)) above)
      ≡ option_or (first_from (before ++ (a ∷ l ++ r)) (entries_below before (node (a ∷ l) v below later))) above
  unfolding entries_below
  first_into r above n f ih =
      let k = before ++ (a ∷ l ++ r) in
      let o = own_entry (before ++ (a ∷ l)) v in
      let c = entries_below (before ++ (a ∷ l)) below in
      let d = entries_below before later in
      let p : first_from k (o ++ (c ++ d)) ≡ option_or (first_from k c) (head_of d) =
      first_append k o (c ++ d)
      ∙ ap₂ option_or (first_none k o (own_keys_lem (λ (x : List ℕ). comes_before x k ≡ true) (before ++ (a ∷ l)) v (before_under before (a ∷ l) (a ∷ l ++ r) ∙ n)))
      (first_append k c d ∙ ap (option_or (first_from k c)) (first_head k d (later_not before a (l ++ r) later f))) in
      ih r (option_or (head_of d) above)
      ∙ ap (λ (z : List ℕ). option_or (first_from z c) (option_or (head_of d) above)) (append_assoc before (a ∷ l) r)
      ∙ sym (or_assoc (first_from k c) (head_of d) above)
      ∙ ap (λ (z : Option Entry). option_or z above) (sym p)

  -- the node and what stands below it is below the key
  first_past : (k : List ℕ) (above : Option Entry) → comes_before (a ∷ l) k ≡ true → starts_with (a ∷ l) k ≡ false
      → option_or (first_from (before ++ k) (entries_below before later)) above ≡ option_or (first_from (before ++ k) (entries_below before (node (a ∷ l) v below later))) above
  first_past k above n s =
      let xs = remainders v below in
      let g = under (before ++ (a ∷ l)) xs in
      rw (entries_node before (a ∷ l) v below later, first_append (before ++ k) g (entries_below before later), first_none (before ++ k) g (side before a l k true (λ x. before_all (a ∷ l) k x n s) xs))

  seeks_node : Rules false (suc a) later → Seeks (before ++ (a ∷ l)) below → Seeks before later → Seeks before (node (a ∷ l) v below later)
  unfolding seek_first
  seeks_node m p q k above = go (comes_before (a ∷ l) k) (starts_with (a ∷ l) k) refl refl
    where
      go : (t u : Bool) → comes_before (a ∷ l) k ≡ t → starts_with (a ∷ l) k ≡ u
          → pick t (pick u (seek_first (before ++ (a ∷ l)) below (drop (length (a ∷ l)) k) (least_or before later above)) (seek_first before later k above))
          (least_in before (node (a ∷ l) v below later))
          ≡ option_or (first_from (before ++ k) (entries_below before (node (a ∷ l) v below later))) above
      go true true n s =
          let r = drop (length (a ∷ l)) k in
          let e = starts_split (a ∷ l) k s in
          ap (seek_first (before ++ (a ∷ l)) below r) (least_or_lem before above m)
          ∙ first_into r above (ap (comes_before (a ∷ l)) (sym e) ∙ n) (rules_from m) p
          ∙ ap (λ (z : List ℕ). option_or (first_from (before ++ z) (entries_below before (node (a ∷ l) v below later))) above) (sym e)
      go true false n s = q k above ∙ first_past k above n s
      go false u n s = least_node before (a ∷ l) v below later h b (least_head (before ++ (a ∷ l)) b) ∙ first_at_lem k above n

pub rules_first : {first : Bool} {least : ℕ} (before : List ℕ) {s : Shape} → Rules first least s → Seeks before s
unfolding seek_first entries_below first_from
rules_first before leaf k above = refl
rules_first before (only {a = a} {l = l} {v = v} {below = below} e b) k above =
    seeks_node before a l v below nil (end_held v below e) b leaf (rules_first (before ++ (a ∷ l)) b) (λ k above. refl) k above
rules_first before (one_of {a = a} {v = v} {below = below} {later = later} n h e b m) k above =
    seeks_node before a [] v below later e b m (rules_first (before ++ (a ∷ [])) b) (rules_first before m) k above

pub canonical_first : (s : Shape) → canonical s ≡ true → (k : List ℕ) → first_in [] s k ≡ first_from k (entries_below [] s)
unfolding first_in
canonical_first s c k = rules_first [] (canonical_rules s c) k None ∙ or_none_lem (first_from k (entries_below [] s))

pub shape_first : (es : List Entry) → is_map es ≡ true → (k : List ℕ) → first_in [] (shape es) k ≡ first_from k es
shape_first es m k = canonical_first (shape es) (shape_canonical es m) k ∙ ap (first_from k) (shape_back es m)
