-- Names in a body, each after its length: the tests of the bytes are those of taking them. Assumes nothing.
use mathlib.Core.Path.{◌≡◌, refl, sym, ap, ap₂, ◌∙◌}
use mathlib.Core.Bool.{Bool, true, false}
use mathlib.Core.List.{List, [], ◌∷◌}
use Rattle.std.proofs.Common.{Option, Some, None}
use Prim.Native.Nat.{ℕ, zero, suc, ◌+◌, ◌≤◌}
use native.Mathlib.Numerals.{one-add}
use native.Mathlib.Omega.{arith}
use lib.Dec.{leb}
use lib.ListN.{length, take, drop, get_or, length-drop}
use lib.Seq.{drop-drop, length-take-le}
use borrow.Author.Tests.{leb-true, le-leb, lt-leb, leb-false}
use Rattle.octets.specs.Pick.{both}
use Rattle.octets.specs.Maybe.{◌>>=◌, ◌>>◌, need}
use Rattle.octets.specs.Place.{Taken, area, take_bytes}
use Rattle.octets.proofs.Laws.{both_true}
use Rattle.groups.specs.Parse.{name_in, take_name, TakenNames, take_names}
use Rattle.group_body.specs.Answer.{is_name_at, names_at, name_end, names_end}
use Rattle.octets.specs.Compare.{comes_before}
use Rattle.groups.proofs.Laws.{first_byte_lem, taken, taken_names}

need_both : {A : Type 0} (a b : Bool) (x : Option A) → (need a >> (need b >> x)) ≡ (need (both a b) >> x)
need_both true b x = refl
need_both false b x = refl

leb_suc : (m n : ℕ) → leb (1 + m) (suc n) ≡ leb m n
leb_suc m n = go (leb m n) refl
  where
    go : (t : Bool) → leb m n ≡ t → leb (1 + m) (suc n) ≡ t
    go true e = let h = leb-true m n e in le-leb (1 + m) (suc n) (omega arith)
    go false e = let h = leb-false m n e in lt-leb (1 + m) (suc n) (omega arith)

-- one name
pub take_name_lem : (s : List ℕ) → take_name s ≡ (need (is_name_at s) >> Some (taken (name_in s) (drop (1 + get_or s 0 0) s)))
unfolding take_name is_name_at name_in area take_bytes
take_name_lem [] = refl
take_name_lem (x ∷ s) =
    need_both (both (leb 1 x) (leb x 16)) (leb x (length s)) (Some (taken (take x s) (drop x s)))
    ∙ ap₂ (λ (t : Bool) (l : List ℕ). need (both (both (leb 1 x) (leb x 16)) t) >> Some (taken (take x s) l)) (sym (leb_suc x (length s)))
    (ap (λ (k : ℕ). drop k (x ∷ s)) (sym (one-add x)))

pub record NameStands (s : List ℕ) : Type 0 where
  pub some_bytes : 1 ≤ get_or s 0 0
  pub few_bytes : get_or s 0 0 ≤ 16
  pub within : 1 + get_or s 0 0 ≤ length s
  pub size : length (name_in s) ≡ get_or s 0 0

pub name_stands : (s : List ℕ) → is_name_at s ≡ true → NameStands s
unfolding is_name_at name_in area
name_stands s e =
    let x : ℕ = get_or s 0 0 in
    let p = both_true (both (leb 1 x) (leb x 16)) (leb (1 + x) (length s)) e in
    let q = both_true (leb 1 x) (leb x 16) p.0 in
    let w : 1 + x ≤ length s = leb-true (1 + x) (length s) p.1 in
    record {
      some_bytes = leb-true 1 x q.0;
      few_bytes = leb-true x 16 q.1;
      within = w;
      size = length-take-le x (drop 1 s) (omega (arith, length-drop 1 s));
    }

-- where a name ends
module _ (above : List ℕ) (at : ℕ) (s : List ℕ) where
  abbrev passes : Bool
  passes = both (is_name_at (drop at s)) (comes_before above (name_in (drop at s)))

  pub end_none : passes ≡ false → name_end above at s ≡ None
  unfolding name_end
  end_none e = rw e

  pub end_some : passes ≡ true → name_end above at s ≡ Some (at + 1 + get_or s at 0)
  unfolding name_end
  end_some e = rw e

-- so many names
names_end_step : (above : List ℕ) (at n : ℕ) (s : List ℕ) (o : Option ℕ) → name_end above at s ≡ o
    → names_end above at (suc n) s ≡ (o >>= λ e. names_end (name_in (drop at s)) e n s)
unfolding names_end
names_end_step above at n s o e = rw e

abbrev pub names_by : Option ℕ → List (List ℕ) → List ℕ → Option TakenNames
names_by None ns s = None
names_by (Some e) ns s = Some (taken_names ns (drop e s))

abbrev more : List ℕ → Option TakenNames → Option TakenNames
more n o = o >>= λ xs. Some (taken_names (n ∷ xs.names) xs.rest)

more_by : (n : List ℕ) (o : Option ℕ) (ns : List (List ℕ)) (s : List ℕ) → more n (names_by o ns s) ≡ names_by o (n ∷ ns) s
more_by n None ns s = refl
more_by n (Some e) ns s = refl

module _ (above : List ℕ) (at n : ℕ) (s : List ℕ)
    (next : (a : List ℕ) (i : ℕ) → take_names a n (drop i s) ≡ names_by (names_end a i n s) (names_at n (drop i s)) s) where
  abbrev l : List ℕ
  l = drop at s

  abbrev x : ℕ
  x = get_or (drop at s) 0 0

  opened : take_names above (suc n) l
      ≡ ((need (is_name_at l) >> Some (taken (name_in l) (drop (1 + x) l))) >>= λ y. need (comes_before above y.bytes) >> more y.bytes (take_names y.bytes n y.rest))
  unfolding take_names
  opened = ap (λ (o : Option Taken). o >>= λ y. need (comes_before above y.bytes) >> more y.bytes (take_names y.bytes n y.rest)) (take_name_lem l)

  by_tests : (t u : Bool) → is_name_at l ≡ t → comes_before above (name_in l) ≡ u
      → ((need t >> Some (taken (name_in l) (drop (1 + x) l))) >>= λ y. need (comes_before above y.bytes) >> more y.bytes (take_names y.bytes n y.rest))
      ≡ names_by (names_end above at (suc n) s) (name_in l ∷ names_at n (drop (1 + x) l)) s
  by_tests false u p q =
      let e : name_end above at s ≡ None = end_none above at s (rw p) in
      let z : names_end above at (suc n) s ≡ None = names_end_step above at n s None e in
      rw z
  by_tests true false p q =
      let e : name_end above at s ≡ None = end_none above at s (rw (p, q)) in
      let z : names_end above at (suc n) s ≡ None = names_end_step above at n s None e in
      rw (q, z)
  by_tests true true p q =
      let i : ℕ = at + 1 + get_or s at 0 in
      let e : name_end above at s ≡ Some i = end_some above at s (rw (p, q)) in
      let z : names_end above at (suc n) s ≡ names_end (name_in l) i n s = names_end_step above at n s (Some i) e in
      let j : at + (1 + x) ≡ i = omega (arith, first_byte_lem at s) in
      let d : drop (1 + x) l ≡ drop i s = drop-drop (1 + x) at s ∙ ap (λ (k : ℕ). drop k s) j in
      rw (q, d, next (name_in l) i, z) (more_by (name_in l) (names_end (name_in l) i n s) (names_at n (drop i s)) s)

  by_name : take_names above (suc n) l ≡ names_by (names_end above at (suc n) s) (names_at (suc n) l) s
  unfolding names_at
  by_name = opened ∙ by_tests (is_name_at l) (comes_before above (name_in l)) refl refl

pub take_names_lem : (above : List ℕ) (n : ℕ) (s : List ℕ) (at : ℕ)
    → take_names above n (drop at s) ≡ names_by (names_end above at n s) (names_at n (drop at s)) s
take_names_lem above zero s at = unfold take_names names_end names_at in refl
take_names_lem above (suc n) s at = by_name above at n s (λ a i. take_names_lem a n s i)
