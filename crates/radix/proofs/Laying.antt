-- Rows of a table as the entries that `sprout` takes apart. Assumes nothing.
use mathlib.Core.Bool.{Bool, true, false, true≢false}
use mathlib.Core.Path.{◌≡◌, refl, sym, ap, ap₂, ◌∙◌, subst, subst⁻¹}
use mathlib.Core.List.{List, [], ◌∷◌}
use Prim.Native.Nat.{ℕ, zero, suc, ◌+◌, ◌*◌, ◌-◌, ◌≤◌, ◌<◌}
use native.Mathlib.Nat.{add-zero}
use native.Mathlib.Omega.{arith}
use borrow.Author.Tests.{eq-eqb, ne_eqb, eqb-true, eqb-false, le-ltb}
use lib.Dec.{eqb}
use lib.ListN.{length, take, drop, get_or, length-drop}
use lib.Seq.{drop-drop}
use Rattle.octets.specs.Pick.{pick}
use Rattle.octets.specs.Place.{area}
use Rattle.octets.proofs.Laws.{area_cut, length_area}
use Rattle.octets.specs.Compare.{order_of, comes_before}
use Rattle.keys.specs.Entries.{Entry, entry, rising, length_of}
use Rattle.radix.specs.Shape.{common, cut, prefix_of, first_byte}
use Rattle.keys.specs.Table.{Columns, row_at, rows_from}
use Rattle.radix.specs.Sprout.{alike}
use Rattle.radix.specs.Rows.{alike_at, rest_at}
use Rattle.keys.proofs.Laws.{Keys, before_le, before_nil, rising_tail, above_keys}
use Rattle.radix.proofs.Keys.{StartsAt, From}
use Rattle.radix.proofs.Turns.{first_some}

-- the key of a row after its first d bytes
pub drop_area : (d at n : ℕ) (s : List ℕ) → d ≤ n → drop d (area at n s) ≡ area (at + d) (n - d) s
drop_area d at n s h =
    let e : at + n ≡ at + d + (n - d) = omega arith in
    ap (drop d) (area_cut at n s) ∙ drop-drop d at (take (at + n) s) ∙ ap (λ (k : ℕ). drop (at + d) (take k s)) e ∙ sym (area_cut (at + d) (n - d) s)

-- rows as entries
module _ (t : Columns) (d : ℕ) where
  pub cut_cons : (i n : ℕ) → cut d (rows_from t i (suc n)) ≡ entry (drop d (area (16 * i) (length_of t.len i) t.key)) (get_or t.val i 0) ∷ cut d (rows_from t (i + 1) n)
  unfolding cut rows_from
  cut_cons i n = refl

  pub cut_length : (i n : ℕ) → length (cut d (rows_from t i n)) ≡ n
  unfolding cut rows_from
  cut_length i zero = refl
  cut_length i (suc n) = ap suc (cut_length (i + 1) n)

  pub cut_take : (c i n : ℕ) → c ≤ n → take c (cut d (rows_from t i n)) ≡ cut d (rows_from t i c)
  unfolding cut rows_from
  cut_take zero i n h = refl
  cut_take (suc c) i zero h = absurd (omega arith)
  cut_take (suc c) i (suc n) h = ap (λ (es : List Entry). entry (drop d (row_at t i).key) (row_at t i).value ∷ es) (cut_take c (i + 1) n (omega arith))

  pub cut_drop : (c i n : ℕ) → c ≤ n → drop c (cut d (rows_from t i n)) ≡ cut d (rows_from t (i + c) (n - c))
  unfolding cut rows_from
  cut_drop zero i n h = let e : n - 0 ≡ n = omega arith in rw (add-zero, e)
  cut_drop (suc c) i zero h = absurd (omega arith)
  cut_drop (suc c) i (suc n) h =
      let e : i + 1 + c ≡ i + suc c = omega arith in
      let f : suc n - suc c ≡ n - c = omega arith in
      cut_drop c (i + 1) n (omega arith) ∙ ap₂ (λ (j k : ℕ). cut d (rows_from t j k)) e (sym f)

  pub rest_nil : (a b : ℕ) → a ≡ b → rest_at t d a b ≡ []
  unfolding cut rows_from
  rest_nil a b e = let z : b - a ≡ 0 = omega arith in rw z

pub cut_cut : (d n : ℕ) (es : List Entry) → cut n (cut d es) ≡ cut (d + n) es
unfolding cut
cut_cut d n [] = refl
cut_cut d n (e ∷ es) = ap₂ (λ (k : List ℕ) (z : List Entry). entry k e.value ∷ z) (drop-drop n d e.key) (cut_cut d n es)

-- longer rows have keys that are not empty, and the other way round
module _ (t : Columns) (d : ℕ) (size : length t.key ≡ 1024) where
  row_long : (i : ℕ) → i < 64 → length (drop d (area (16 * i) (length_of t.len i) t.key)) ≡ length_of t.len i - d
  row_long i h = omega (arith, length-drop d (area (16 * i) (length_of t.len i) t.key), length_area (16 * i) (length_of t.len i) t.key (omega arith))

  some_key : (k : List ℕ) → 1 ≤ length k → StartsAt 0 k
  some_key [] h = absurd (omega arith)
  some_key (b ∷ k) h = omega arith

  key_some : (k : List ℕ) → StartsAt 0 k → 1 ≤ length k
  key_some [] h = absurd h
  key_some (b ∷ k) h = omega arith

  pub long_from : (i n : ℕ) → i + n ≤ 64 → ((j : ℕ) → i ≤ j → j < i + n → d < length_of t.len j) → From 0 (cut d (rows_from t i n))
  unfolding cut rows_from
  long_from i zero h f = tt
  long_from i (suc n) h f = (
    some_key (drop d (area (16 * i) (length_of t.len i) t.key)) (omega (arith, row_long i (omega arith), f i (omega arith) (omega arith))),
    long_from (i + 1) n (omega arith) (λ j p q. f j (omega arith) (omega arith)),
  )

  pub from_long : (i n : ℕ) → i + n ≤ 64 → From 0 (cut d (rows_from t i n)) → (j : ℕ) → i ≤ j → j < i + n → d < length_of t.len j
  unfolding cut rows_from
  from_long i zero h f j p q = absurd (omega arith)
  from_long i (suc n) h f j p q = go (eqb i j) refl (from_long (i + 1) n (omega arith) f.1 j)
    where
      go : (u : Bool) → eqb i j ≡ u → (i + 1 ≤ j → j < i + 1 + n → d < length_of t.len j) → d < length_of t.len j
      go true e ih =
          subst (λ (k : ℕ). d < length_of t.len k) (eqb-true i j e)
          (omega (arith, row_long i (omega arith), key_some (drop d (area (16 * i) (length_of t.len i) t.key)) f.0))
      go false e ih = let z : i ≡ j → ⊥ = eqb-false i j e in ih (omega arith) (omega arith)

  -- how many rows start alike
  pub alike_rest : (c i n : ℕ) → i + n ≤ 64 → ((j : ℕ) → i ≤ j → j < i + n → d < length_of t.len j) → alike c (cut d (rows_from t i n)) ≡ alike_at t.key d c i n
  unfolding cut rows_from alike alike_at
  alike_rest c i zero h f = refl
  alike_rest c i (suc n) h f =
      let l = f i (omega arith) (omega arith) in
      let e : first_byte (drop d (area (16 * i) (length_of t.len i) t.key)) ≡ get_or t.key (16 * i + d) 0 =
      ap first_byte (drop_area d (16 * i) (length_of t.len i) t.key (omega arith)) ∙ sym (first_some t.key (16 * i + d) (length_of t.len i - d) (omega arith) (omega arith)) in
      rw (e, alike_rest c (i + 1) n (omega arith) (λ j p q. f j (omega arith) (omega arith)))

-- what rising keys share is what the first and the last share
before_same : (x : ℕ) (a b : List ℕ) → comes_before (x ∷ a) (x ∷ b) ≡ true → comes_before a b ≡ true
unfolding order_of
before_same x a b h = rw (le-ltb x x (omega arith)) at h

common_self : (l : List ℕ) → common l l ≡ l
unfolding common
common_self [] = refl
common_self (x ∷ l) = rw (eq-eqb x x refl) (ap (λ (z : List ℕ). x ∷ z) (common_self l))

between : (e f l : List ℕ) → comes_before e f ≡ true → comes_before f l ≡ true → common e (common f l) ≡ common e l
unfolding common
between [] f l p q = refl
between (x ∷ e) [] l p q = absurd (true≢false (sym p ∙ before_nil (x ∷ e)))
between (x ∷ e) (y ∷ f) [] p q = absurd (true≢false (sym q ∙ before_nil (y ∷ f)))
between (x ∷ e) (y ∷ f) (z ∷ l) p q = go (eqb y z) (eqb x z) refl refl (before_le x y e f p) (before_le y z f l q) (between e f l)
  where
    go : (s t : Bool) → eqb y z ≡ s → eqb x z ≡ t → x ≤ y → y ≤ z → (comes_before e f ≡ true → comes_before f l ≡ true → common e (common f l) ≡ common e l)
        → common (x ∷ e) (pick s (y ∷ common f l) []) ≡ pick t (x ∷ common e l) []
    go true true u w m n ih =
        let a : x ≡ y = eqb-true x z w ∙ sym (eqb-true y z u) in
        let c = before_same y e f (subst (λ (k : ℕ). comes_before (k ∷ e) (y ∷ f) ≡ true) a p) in
        let d = before_same y f l (subst⁻¹ (λ (k : ℕ). comes_before (y ∷ f) (k ∷ l) ≡ true) (eqb-true y z u) q) in
        rw (eq-eqb x y a) (ap (λ (k : List ℕ). x ∷ k) (ih c d))
    go true false u w m n ih = rw (ne_eqb x y (λ a. eqb-false x z w (a ∙ eqb-true y z u)))
    go false true u w m n ih = absurd (eqb-false y z u (let a : x ≡ z = eqb-true x z w in omega arith))
    go false false u w m n ih = refl

abbrev pub last_of : Entry → List Entry → Entry
last_of e [] = e
last_of e (f ∷ es) = last_of f es

last_above : (k : List ℕ) (e : Entry) (es : List Entry) → comes_before k e.key ≡ true → Keys (λ (x : List ℕ). comes_before k x ≡ true) es → comes_before k (last_of e es).key ≡ true
last_above k e [] h g = h
last_above k e (f ∷ es) h g = last_above k f es g.0 g.1

pub prefix_ends : (e : Entry) (es : List Entry) → rising (e ∷ es) ≡ true → prefix_of (e ∷ es) ≡ common e.key (last_of e es).key
unfolding prefix_of rising
prefix_ends e [] r = sym (common_self e.key)
prefix_ends e (f ∷ es) r =
    let a = above_keys e.key (f ∷ es) r in
    ap (common e.key) (prefix_ends f es (rising_tail e.key (f ∷ es) r)) ∙ go es (rising_tail e.key (f ∷ es) r) a.0
  where
    go : (es : List Entry) → rising (f ∷ es) ≡ true → comes_before e.key f.key ≡ true → common e.key (common f.key (last_of f es).key) ≡ common e.key (last_of f es).key
    go [] r a = ap (common e.key) (common_self f.key)
    go (g ∷ es) r a = let b = above_keys f.key (g ∷ es) r in between e.key f.key (last_of g es).key a (last_above f.key g es b.0 b.1)
