-- Names in rising order: no two are one, so a name has one place. Assumes nothing.
use mathlib.Core.Path.{◌≡◌, refl, sym}
use mathlib.Core.Bool.{Bool, true, false}
use mathlib.Core.List.{List, [], ◌∷◌}
use Prim.Native.Nat.{ℕ, zero, suc, ◌+◌, ◌≤◌, ◌<◌}
use native.Mathlib.Omega.{arith}
use lib.Dec.{leb}
use lib.Pow.{are_bytes}
use lib.ListN.{length, get_or}
use borrow.Author.Tests.{leb-true, le-leb}
use Rattle.octets.specs.Pick.{pick, both}
use Rattle.octets.specs.Bytes.{Bytes}
use Rattle.octets.specs.Compare.{same, order_of, comes_before}
use Rattle.std.specs.declared.cmp.Ordering.TheVariants.{Less}
use Rattle.octets.proofs.Laws.{both_true, same_refl, same_true, both_of, never, are_bytes_lem, bytes_are, is_less_lem, before_trans, before_differs}
use Rattle.groups.specs.Group.{is_name, are_names, names_above, rising_names, is_among}
use Rattle.groups.specs.Bytes.{place_of_name}

-- a name of 1 to 16 bytes
pub record Named (n : List ℕ) : Type 0 where
  pub some_bytes : 1 ≤ length n
  pub few_bytes : length n ≤ 16
  pub bytes : Bytes n

pub named : (n : List ℕ) → is_name n ≡ true → Named n
named n e =
    let p = both_true (both (leb 1 (length n)) (leb (length n) 16)) (are_bytes n) e in
    let q = both_true (leb 1 (length n)) (leb (length n) 16) p.0 in
    record { some_bytes = leb-true 1 (length n) q.0; few_bytes = leb-true (length n) 16 q.1; bytes = bytes_are n p.1 }

pub is_name_lem : (n : List ℕ) → 1 ≤ length n → length n ≤ 16 → Bytes n → is_name n ≡ true
is_name_lem n h k b = both_of (both_of (le-leb 1 (length n) h) (le-leb (length n) 16 k)) (are_bytes_lem n b)

pub before_less : (a b : List ℕ) → comes_before a b ≡ true → order_of a b ≡ Less
before_less a b e = is_less_lem (order_of a b) e

pub same_swap : (a b : List ℕ) (t : Bool) → same a b ≡ t → same b a ≡ t
same_swap a b true e = rw (same_true a b e) (same_refl b)
same_swap a b false e = go (same b a) refl
  where
    go : (u : Bool) → same b a ≡ u → same b a ≡ false
    go false f = f
    go true f = absurd (never (rw (same_true b a f) (same_refl a)) e)

pub after_differs : (a b : List ℕ) → comes_before a b ≡ true → same b a ≡ false
after_differs a b h = same_swap a b false (before_differs a b h)

-- the empty name comes before every other
pub empty_before : (n : List ℕ) → 1 ≤ length n → comes_before [] n ≡ true
unfolding order_of
empty_before [] h = absurd (omega arith)
empty_before (x ∷ n) h = refl

-- names of a rising list rise above the empty one, and the other way round
pub rising_above : (ns : List (List ℕ)) → are_names ns ≡ true → rising_names ns ≡ true → names_above [] ns ≡ true
unfolding are_names rising_names names_above
rising_above [] e r = refl
rising_above (n ∷ ns) e r =
    both_of (empty_before n (named n (both_true (is_name n) (are_names ns) e).0).some_bytes) r

pub above_rising : (a : List ℕ) (ns : List (List ℕ)) → names_above a ns ≡ true → rising_names ns ≡ true
unfolding rising_names names_above
above_rising a [] e = refl
above_rising a (n ∷ ns) e = (both_true (comes_before a n) (names_above n ns) e).1

-- every name of the list is above what it rises above
pub above_get_d : (a : List ℕ) (ns : List (List ℕ)) (i : ℕ) → names_above a ns ≡ true → i < length ns → comes_before a (get_or ns i []) ≡ true
unfolding names_above
above_get_d a [] i e h = absurd (omega arith)
above_get_d a (n ∷ ns) zero e h = (both_true (comes_before a n) (names_above n ns) e).0
above_get_d a (n ∷ ns) (suc i) e h =
    let p = both_true (comes_before a n) (names_above n ns) e in
    before_trans a n (get_or ns i []) p.0 (above_get_d n ns i p.1 (omega arith))

pub place_get_d : (a : List ℕ) (ns : List (List ℕ)) (i : ℕ) → names_above a ns ≡ true → i < length ns → place_of_name (get_or ns i []) ns ≡ i
unfolding names_above place_of_name
place_get_d a [] i e h = absurd (omega arith)
place_get_d a (n ∷ ns) zero e h = rw (same_refl n)
place_get_d a (n ∷ ns) (suc i) e h =
    let p = both_true (comes_before a n) (names_above n ns) e in
    let q : i < length ns = omega arith in
    rw (after_differs n (get_or ns i []) (above_get_d n ns i p.1 q), place_get_d n ns i p.1 q) (omega arith)

pub among_get_d : (ns : List (List ℕ)) (i : ℕ) → i < length ns → is_among (get_or ns i []) ns ≡ true
unfolding is_among
among_get_d [] i h = absurd (omega arith)
among_get_d (n ∷ ns) zero h = rw (same_refl n)
among_get_d (n ∷ ns) (suc i) h = rw (among_get_d ns i (omega arith)) (pick_true (same (get_or ns i []) n))
  where
    pick_true : (t : Bool) → pick t true true ≡ true
    pick_true true = refl
    pick_true false = refl

-- a name among the names stands at its place
pub record Placed (n : List ℕ) (ns : List (List ℕ)) : Type 0 where
  pub within : place_of_name n ns < length ns
  pub stands : get_or ns (place_of_name n ns) [] ≡ n

placed_case : (n m : List ℕ) (ms : List (List ℕ)) (t : Bool) → same n m ≡ t → pick t true (is_among n ms) ≡ true
    → (is_among n ms ≡ true → Placed n ms) → Placed n (m ∷ ms)
unfolding place_of_name
placed_case n m ms true e h r = record { within = rw e (omega arith); stands = rw e (sym (same_true n m e)) }
placed_case n m ms false e h r =
    let p = r h in
    let q : 1 + place_of_name n ms ≡ suc (place_of_name n ms) = omega arith in
    record { within = rw e (omega (arith, p.within)); stands = rw (e, q) p.stands }

pub placed : (n : List ℕ) (ns : List (List ℕ)) → is_among n ns ≡ true → Placed n ns
unfolding is_among
placed n [] e = absurd (never refl (sym e))
placed n (m ∷ ms) e = placed_case n m ms (same n m) refl e (placed n ms)
