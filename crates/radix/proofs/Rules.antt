-- The rules of a shape as a relation, which laws go by; and that it is the test. Assumes nothing.
use mathlib.Core.Path.{◌≡◌, refl, sym, ap, ap₂, ◌∙◌}
use mathlib.Core.Bool.{Bool, true, false, true≢false}
use mathlib.Core.List.{List, [], ◌∷◌, ◌++◌}
use Rattle.std.proofs.Common.{Option, Some, None}
use Prim.Native.Nat.{ℕ, suc, ◌+◌, ◌≤◌}
use native.Mathlib.Omega.{arith}
use native.Mathlib.Numerals.{add-one}
use lib.Dec.{leb}
use lib.ListN.{length}
use borrow.Author.Tests.{leb-true, le-leb, eqb-true}
use Rattle.octets.specs.Pick.{pick, both}
use Rattle.keys.specs.Entries.{Entry, rising}
use Rattle.radix.specs.Shape.{prefix_of, Shape, nil, node, entries_below, first_byte}
use Rattle.radix.specs.Canon.{is_nil, is_end, is_held, is_only, is_one_of, rules, canonical}
use Rattle.radix.proofs.Under.{under, prefix_under, remainders, entries_node}
use Rattle.radix.proofs.Keys.{From, from_weaken, from_under, StartsAt}
use Rattle.keys.proofs.Laws.{keys_append, both_left, both_right}
use Rattle.radix.proofs.Sorted.{rising_own, rising_join}

pub data Rules : Bool → ℕ → Shape → Type 0 where
  leaf : {first : Bool} {least : ℕ} → Rules first least nil
  only : {least a : ℕ} {l : List ℕ} {v : Option ℕ} {below : Shape} → is_end v below ≡ true → Rules true 0 below → Rules true least (node (a ∷ l) v below nil)
  one_of : {first : Bool} {least a : ℕ} {v : Option ℕ} {below later : Shape}
      → both first (is_nil later) ≡ false → least ≤ a → is_held v below ≡ true → Rules true 0 below → Rules false (suc a) later
      → Rules first least (node (a ∷ []) v below later)

pub rules_test : {first : Bool} {least : ℕ} {s : Shape} → Rules first least s → rules first least s ≡ true
unfolding rules
rules_test leaf = refl
rules_test (only {l = l} e b) = ap₂ both (ap₂ both (le-leb 1 (suc (length l)) (omega arith)) e) (ap₂ both (rules_test b) refl)
rules_test (one_of {least = least} {a = a} {v = v} {below = below} n h e b m) =
    ap₂ both (ap (λ (t : Bool). pick t (is_end v below) (is_one_of least (a ∷ []) v below)) n ∙ ap₂ both (le-leb least a h) e)
    (ap₂ both (rules_test b) (rw add-one (rules_test m)))

one_of_lem : (first : Bool) (least : ℕ) (label : List ℕ) (v : Option ℕ) (below later : Shape)
    → both first (is_nil later) ≡ false → is_one_of least label v below ≡ true → Rules true 0 below → Rules false (first_byte label + 1) later
    → Rules first least (node label v below later)
one_of_lem first least [] v below later n h b m = absurd (true≢false (sym h))
one_of_lem first least (a ∷ []) v below later n h b m =
    one_of n (leb-true least a (both_left (leb least a) (is_held v below) h)) (both_right (leb least a) (is_held v below) h) b (rw add-one at m)
one_of_lem first least (a ∷ (c ∷ l)) v below later n h b m =
    absurd (omega (arith, eqb-true (suc (suc (length l))) 1 (both_left _ (leb least a) (both_left _ (is_held v below) h))))

by_rule : (first : Bool) (least : ℕ) (label : List ℕ) (v : Option ℕ) (below later : Shape)
    → pick (both first (is_nil later)) (is_only label v below) (is_one_of least label v below) ≡ true → Rules true 0 below → Rules false (first_byte label + 1) later
    → Rules first least (node label v below later)
by_rule true least [] v below nil h b m = absurd (true≢false (sym h))
by_rule true least (a ∷ l) v below nil h b m = only (both_right (leb 1 (suc (length l))) (is_end v below) h) b
by_rule true least label v below (node l w c r) h b m = one_of_lem true least label v below (node l w c r) refl h b m
by_rule false least label v below later h b m = one_of_lem false least label v below later refl h b m

pub test_rules : (first : Bool) (least : ℕ) (s : Shape) → rules first least s ≡ true → Rules first least s
unfolding rules
test_rules first least nil h = leaf
test_rules first least (node label v below later) h =
    let t = both_right (pick (both first (is_nil later)) (is_only label v below) (is_one_of least label v below)) _ h in
    by_rule first least label v below later (both_left _ _ h)
    (test_rules true 0 below (both_left (rules true 0 below) _ t))
    (test_rules false (first_byte label + 1) later (both_right (rules true 0 below) _ t))

pub canonical_rules : (s : Shape) → canonical s ≡ true → Rules true 0 s
unfolding canonical
canonical_rules s h = test_rules true 0 s h

pub rules_canonical : {s : Shape} → Rules true 0 s → canonical s ≡ true
unfolding canonical
rules_canonical r = rules_test r

-- the first bytes of the keys
least_from_lem : (first : Bool) (least a : ℕ) → least ≤ a → pick first 0 least ≤ a
least_from_lem true least a h = omega arith
least_from_lem false least a h = h

from_node : (n a : ℕ) (l : List ℕ) (v : Option ℕ) (below later : Shape) → n ≤ a → From n (entries_below [] later) → From n (entries_below [] (node (a ∷ l) v below later))
from_node n a l v below later h m =
    rw (entries_node [] (a ∷ l) v below later)
    (keys_append (StartsAt n) (under (a ∷ l) (remainders v below)) (entries_below [] later) (from_under n a l h (remainders v below)) m)

pub rules_from : {first : Bool} {least : ℕ} {s : Shape} → Rules first least s → From (pick first 0 least) (entries_below [] s)
unfolding entries_below
rules_from leaf = tt
rules_from (only {a = a} {l = l} {v = v} {below = below} e b) = from_node 0 a l v below nil (omega arith) tt
rules_from (one_of {first = first} {least = least} {a = a} {v = v} {below = below} {later = later} n h e b m) =
    let p = least_from_lem first least a h in
    from_node (pick first 0 least) a [] v below later p (from_weaken (pick first 0 least) (suc a) (omega arith) (entries_below [] later) (rules_from m))

pub canonical_from : {s : Shape} → Rules true 0 s → From 0 (entries_below [] s)
canonical_from r = rules_from r

pub rules_rising : {first : Bool} {least : ℕ} {s : Shape} → Rules first least s → rising (entries_below [] s) ≡ true
unfolding entries_below rising
rules_rising leaf = refl
rules_rising (only {a = a} {l = l} {v = v} {below = below} e b) =
    rw (entries_node [] (a ∷ l) v below nil)
    (rising_join a l [] refl tt (remainders v below) (rising_own v (entries_below [] below) (canonical_from b) (rules_rising b)))
rules_rising (one_of {a = a} {v = v} {below = below} {later = later} n h e b m) =
    rw (entries_node [] (a ∷ []) v below later)
    (rising_join a [] (entries_below [] later) (rules_rising m) (rules_from m) (remainders v below)
    (rising_own v (entries_below [] below) (canonical_from b) (rules_rising b)))

-- every node has a key at it or below it
abbrev pub NotEmpty : List Entry → Type 0
NotEmpty [] = ⊥
NotEmpty (e ∷ es) = Unit {0}

pub some_left : (xs ys : List Entry) → NotEmpty xs → NotEmpty (xs ++ ys)
some_left [] ys h = absurd h
some_left (x ∷ xs) ys h = tt

pub some_under : (l : List ℕ) (es : List Entry) → NotEmpty es → NotEmpty (under l es)
some_under l [] h = h
some_under l (e ∷ es) h = tt

pub some_length : (es : List Entry) → NotEmpty es → 1 ≤ length es
some_length [] h = absurd h
some_length (e ∷ es) h = omega arith

pub length_some : (es : List Entry) → 1 ≤ length es → NotEmpty es
length_some [] h = absurd (omega arith)
length_some (e ∷ es) h = tt

pub prefix_some : (l : List ℕ) (es : List Entry) → NotEmpty es → prefix_of (under l es) ≡ l ++ prefix_of es
prefix_some l [] h = absurd h
prefix_some l (e ∷ es) h = prefix_under l e es

held_some : (v : Option ℕ) (below : Shape) → is_held v below ≡ true → (is_nil below ≡ false → NotEmpty (entries_below [] below)) → NotEmpty (remainders v below)
held_some (Some v) below h k = tt
held_some None nil h k = absurd (true≢false (sym h))
held_some None (node l v below later) h k = k refl

pub end_held : (v : Option ℕ) (below : Shape) → is_end v below ≡ true → is_held v below ≡ true
end_held (Some v) below h = refl
end_held None nil h = h
end_held None (node l v below later) h = refl

some_node : (l : List ℕ) (v : Option ℕ) (below later : Shape) → NotEmpty (remainders v below) → NotEmpty (entries_below [] (node l v below later))
some_node l v below later h =
    rw (entries_node [] l v below later) (some_left (under l (remainders v below)) (entries_below [] later) (some_under l (remainders v below) h))

pub rules_some : {first : Bool} {least : ℕ} {s : Shape} → Rules first least s → is_nil s ≡ false → NotEmpty (entries_below [] s)
rules_some leaf h = absurd (true≢false h)
rules_some (only {a = a} {l = l} {v = v} {below = below} e b) h =
    some_node (a ∷ l) v below nil (held_some v below (end_held v below e) (rules_some b))
rules_some (one_of {a = a} {v = v} {below = below} {later = later} n k e b m) h =
    some_node (a ∷ []) v below later (held_some v below e (rules_some b))

pub held_entries : (v : Option ℕ) {below : Shape} → is_held v below ≡ true → Rules true 0 below → NotEmpty (remainders v below)
held_entries v {below} h b = held_some v below h (rules_some b)

-- the other way round
pub some_held : (v : Option ℕ) (below : Shape) → NotEmpty (remainders v below) → is_held v below ≡ true
unfolding entries_below
some_held (Some v) below h = refl
some_held None nil h = absurd h
some_held None (node l v below later) h = refl
