-- The entries of a tree are gathered, and the rules kept, exactly if the tree is the shape of them. Assumes nothing.
use mathlib.Core.Bool.{Bool, true, false, true≢false}
use mathlib.Core.Path.{◌≡◌, refl, sym, ap, ap₂, ◌∙◌, subst, subst⁻¹}
use mathlib.Core.List.{List, [], ◌∷◌, ◌++◌, append_assoc, append-nil}
use Rattle.std.proofs.Common.{Option, Some, None}
use Prim.Native.Nat.{ℕ, suc, ◌+◌, ◌≤◌, ◌<◌, ◌^◌}
use native.Mathlib.Omega.{arith}
use borrow.Author.Tests.{eq-eqb, eqb-true, lt-ltb, le-leb, ltb-true, leb-true}
use lib.Dec.{leb, ltb}
use lib.ListN.{length, length-append}
use Rattle.octets.specs.Pick.{both}
use Rattle.octets.specs.Maybe.{need, ◌>>◌, ◌>>=◌}
use Rattle.octets.specs.Compare.{same}
use Rattle.octets.proofs.Laws.{both_true, same_refl, same_true}
use Rattle.keys.specs.Entries.{Entry, entry, is_key, all_fit, is_map}
use Rattle.radix.specs.Shape.{Shape, nil, node, own_entry, entries_below, shape}
use Rattle.radix.specs.Canon.{canonical}
use Rattle.radix.specs.Record.{same_value, same_shape, held_in}
use Rattle.radix.specs.Gathering.{with_own, gathered}
use Rattle.radix.proofs.Under.{under, remainders, remainders_under}
use Rattle.radix.proofs.Keys.{StartsAt, From}
use Rattle.keys.proofs.Laws.{Short, keys_append, keys_left, keys_right, is_map_lem, map_length, map_fit}
use Rattle.radix.proofs.Fits.{fit_short}
use Rattle.radix.proofs.Rules.{Rules, leaf, only, one_of, NotEmpty, end_held, held_entries, canonical_rules}
use Rattle.radix.proofs.Unique.{canonical_rising, canonical_keys, shape_of_fitting}
use Rattle.radix.proofs.Back.{shape_back, shape_rules, shape_canonical}

-- the same shape
value_refl : (v : Option ℕ) → same_value v v ≡ true
unfolding same_value
value_refl None = refl
value_refl (Some v) = eq-eqb v v refl

pub shape_refl : (s : Shape) → same_shape s s ≡ true
unfolding same_shape
shape_refl nil = refl
shape_refl (node l v b t) = rw (same_refl l, value_refl v, shape_refl b, shape_refl t)

value_true : (v w : Option ℕ) → same_value v w ≡ true → v ≡ w
unfolding same_value
value_true None None e = refl
value_true None (Some w) e = absurd (true≢false (sym e))
value_true (Some v) None e = absurd (true≢false (sym e))
value_true (Some v) (Some w) e = ap Some (eqb-true v w e)

pub shape_true : (s t : Shape) → same_shape s t ≡ true → s ≡ t
unfolding same_shape
shape_true nil nil e = refl
shape_true nil (node m w c u) e = absurd (true≢false (sym e))
shape_true (node l v b t) nil e = absurd (true≢false (sym e))
shape_true (node l v b t) (node m w c u) e =
    let p = both_true (both (same l m) (same_value v w)) _ e in
    let q = both_true (same l m) (same_value v w) p.0 in
    let r = both_true (same_shape b c) (same_shape t u) p.1 in
    ap₂ (λ (x : List ℕ) (y : Option ℕ). node x y b t) (same_true l m q.0) (value_true v w q.1)
    ∙ ap₂ (λ (x y : Shape). node m w x y) (shape_true b c r.0) (shape_true t u r.1)

-- an answer that is there
pub need_some : {A : Type 0} (t : Bool) (o : Option A) {r : A} → (need t >> o) ≡ Some r → (t ≡ true) × (o ≡ Some r)
need_some true o e = (refl, e)
need_some false o e = absurd (let z : ◌≡◌ {A = ℕ} 0 1 = cc in omega arith)

pub bind_some : {A B : Type 0} (o : Option A) (f : A → Option B) {r : B} → (o >>= f) ≡ Some r → (a : A) × (o ≡ Some a) × (f a ≡ Some r)
bind_some None f e = absurd (let z : ◌≡◌ {A = ℕ} 0 1 = cc in omega arith)
bind_some (Some a) f e = (a, refl, e)

-- every value has 32 bits
abbrev pub Vals : List Entry → Type 0
Vals [] = Unit {0}
Vals (e ∷ es) = (e.value < 2 ^ 32) × Vals es

vals_append : (xs ys : List Entry) → Vals xs → Vals ys → Vals (xs ++ ys)
vals_append [] ys h k = k
vals_append (x ∷ xs) ys h k = (h.0, vals_append xs ys h.1 k)

vals_left : (xs ys : List Entry) → Vals (xs ++ ys) → Vals xs
vals_left [] ys h = tt
vals_left (x ∷ xs) ys h = (h.0, vals_left xs ys h.1)

vals_right : (xs ys : List Entry) → Vals (xs ++ ys) → Vals ys
vals_right [] ys h = h
vals_right (x ∷ xs) ys h = vals_right xs ys h.1

pub fit_vals : (es : List Entry) → all_fit es ≡ true → Vals es
unfolding all_fit
fit_vals [] h = tt
fit_vals (e ∷ es) h =
    let p = both_true (both (is_key e.key) (ltb e.value (2 ^ 32))) (all_fit es) h in
    (ltb-true e.value (2 ^ 32) (both_true (is_key e.key) _ p.0).1, fit_vals es p.1)

is_key_lem : (k : List ℕ) → StartsAt 0 k → length k ≤ 16 → is_key k ≡ true
is_key_lem [] s h = absurd s
is_key_lem (b ∷ k) s h = let m : 1 ≤ suc (length k) = omega arith in rw (le-leb 1 (suc (length k)) m, le-leb (suc (length k)) 16 h)

pub fits_of : (es : List Entry) → From 0 es → Short 16 es → Vals es → all_fit es ≡ true
unfolding all_fit
fits_of [] f s v = refl
fits_of (e ∷ es) f s v = rw (is_key_lem e.key f.0 s.0, lt-ltb e.value (2 ^ 32) v.0, fits_of es f.1 s.1 v.1)

-- what was gathered: the entries `new`, after those before
record Got (old new all : List Entry) : Type 0 where
  sum : all ≡ old ++ new
  short : Short 16 new
  vals : Vals new
  room : length old ≤ 64 → length all ≤ 64

got_join : {a b c x y : List Entry} → Got a x b → Got b y c → Got a (x ++ y) c
got_join {a} {b} {c} {x} {y} p q =
    record {
      sum = q.sum ∙ ap (λ (l : List Entry). l ++ y) p.sum ∙ append_assoc a x y;
      short = keys_append (λ (k : List ℕ). length k ≤ 16) x y p.short q.short;
      vals = vals_append x y p.vals q.vals;
      room = λ h. q.room (p.room h);
    }

some_is : {A : Type 0} {a b : A} → Some a ≡ Some b → b ≡ a
some_is e = cc

got_none : (old all : List Entry) → Some old ≡ Some all → Got old [] all
got_none old all e =
    record {
      sum = some_is e ∙ sym (append-nil old);
      short = tt;
      vals = tt;
      room = λ r. subst (λ (l : List Entry). length l ≤ 64) (sym (some_is e)) r;
    }

got_own : (k : List ℕ) (v : Option ℕ) (old all : List Entry) → length k ≤ 16 → with_own k v old ≡ Some all → Got old (own_entry k v) all
got_own k None old all h e = got_none old all e
got_own k (Some v) old all h e =
    let p = need_some (both (ltb (length old) 64) (ltb v (2 ^ 32))) (Some (old ++ (entry k v ∷ []))) e in
    let q = both_true (ltb (length old) 64) (ltb v (2 ^ 32)) p.0 in
    let s : all ≡ old ++ (entry k v ∷ []) = some_is p.1 in
    record {
      sum = s;
      short = (h, tt);
      vals = (ltb-true v (2 ^ 32) q.1, tt);
      room = λ r. let m : length old < 64 = ltb-true (length old) 64 q.0 in omega (arith, ap length s, length-append old (entry k v ∷ []));
    }

got_all : (before : List ℕ) (s : Shape) (old all : List Entry) → gathered before s old ≡ Some all → Got old (entries_below before s) all
unfolding gathered entries_below
got_all before nil old all e = got_none old all e
got_all before (node l v below later) old all e =
    let n = need_some (leb (length before + length l) 16) _ e in
    let o = bind_some (with_own (before ++ l) v old) _ n.1 in
    let b = bind_some (gathered (before ++ l) below o.0) (gathered before later) o.2 in
    let h : length (before ++ l) ≤ 16 = omega (arith, leb-true (length before + length l) 16 n.0, length-append before l) in
    got_join (got_own (before ++ l) v old o.0 h o.1)
    (got_join (got_all (before ++ l) below o.0 b.0 b.1) (got_all before later b.0 all b.2))

-- the other way round: what keeps the rules and fits is gathered whole
pub record Fits (before : List ℕ) (s : Shape) (old : List Entry) : Type 0 where
  pub short : Short 16 (entries_below before s)
  pub vals : Vals (entries_below before s)
  pub room : length old + length (entries_below before s) ≤ 64

own_all : (k : List ℕ) (v : Option ℕ) (old : List Entry) → Vals (own_entry k v) → length old + length (own_entry k v) ≤ 64
    → with_own k v old ≡ Some (old ++ own_entry k v)
own_all k None old h r = ap Some (sym (append-nil old))
own_all k (Some v) old h r = let m : length old < 64 = omega arith in rw (lt-ltb (length old) 64 m, lt-ltb v (2 ^ 32) h.0)

-- a node with a key at it or below it lies no deeper than that key
not_deep : (l : List ℕ) (es : List Entry) → NotEmpty es → Short 16 (under l es) → length l ≤ 16
not_deep l [] s h = absurd s
not_deep l (e ∷ es) s h = omega (arith, h.0, length-append l e.key)

module _ (before l : List ℕ) (v : Option ℕ) (below later : Shape) (old : List Entry) (f : Fits before (node l v below later) old) where
  own_part : List Entry
  own_part = own_entry (before ++ l) v

  below_part : List Entry
  below_part = entries_below (before ++ l) below

  later_part : List Entry
  later_part = entries_below before later

  parts : entries_below before (node l v below later) ≡ own_part ++ (below_part ++ later_part)
  unfolding entries_below own_part below_part later_part
  parts = refl

  short_parts : Short 16 (own_part ++ (below_part ++ later_part))
  short_parts = subst (Short 16) parts f.short

  vals_parts : Vals (own_part ++ (below_part ++ later_part))
  vals_parts = subst Vals parts f.vals

  sizes : length old + (length own_part + (length below_part + length later_part)) ≤ 64
  sizes = omega (arith, f.room, ap length parts, length-append own_part (below_part ++ later_part), length-append below_part later_part)

  abbrev P : List ℕ → Type 0
  P k = length k ≤ 16

  depth : NotEmpty (remainders v below) → length (before ++ l) ≤ 16
  unfolding own_part below_part later_part
  depth s =
      not_deep (before ++ l) (remainders v below) s
      (subst (Short 16) (remainders_under (before ++ l) v below)
      (keys_append P own_part below_part (keys_left P own_part (below_part ++ later_part) short_parts)
      (keys_left P below_part later_part (keys_right P own_part (below_part ++ later_part) short_parts))))

  below_fits : Fits (before ++ l) below (old ++ own_part)
  unfolding own_part below_part later_part
  below_fits =
      record {
        short = keys_left P below_part later_part (keys_right P own_part (below_part ++ later_part) short_parts);
        vals = vals_left below_part later_part (vals_right own_part (below_part ++ later_part) vals_parts);
        room = omega (arith, sizes, length-append old own_part);
      }

  later_fits : Fits before later ((old ++ own_part) ++ below_part)
  unfolding own_part below_part later_part
  later_fits =
      record {
        short = keys_right P below_part later_part (keys_right P own_part (below_part ++ later_part) short_parts);
        vals = vals_right below_part later_part (vals_right own_part (below_part ++ later_part) vals_parts);
        room = omega (arith, sizes, length-append old own_part, length-append (old ++ own_part) below_part);
      }

  node_all : NotEmpty (remainders v below)
      → ((o : List Entry) → Fits (before ++ l) below o → gathered (before ++ l) below o ≡ Some (o ++ entries_below (before ++ l) below))
      → ((o : List Entry) → Fits before later o → gathered before later o ≡ Some (o ++ entries_below before later))
      → gathered before (node l v below later) old ≡ Some (old ++ entries_below before (node l v below later))
  unfolding gathered entries_below own_part below_part later_part
  node_all s b m =
      let d : length before + length l ≤ 16 = omega (arith, depth s, length-append before l) in
      let w : with_own (before ++ l) v old ≡ Some (old ++ own_part) = own_all (before ++ l) v old (vals_left own_part (below_part ++ later_part) vals_parts) (omega (arith, sizes)) in
      rw (le-leb (length before + length l) 16 d, w, b (old ++ own_part) below_fits, m ((old ++ own_part) ++ below_part) later_fits)
      (ap Some (append_assoc (old ++ own_part) below_part later_part ∙ append_assoc old own_part (below_part ++ later_part)))

gather_all : {first : Bool} {least : ℕ} {s : Shape} → Rules first least s → (before : List ℕ) (old : List Entry) → Fits before s old
    → gathered before s old ≡ Some (old ++ entries_below before s)
unfolding gathered entries_below
gather_all leaf before old f = ap Some (sym (append-nil old))
gather_all (only {a = a} {l = l} {v = v} {below = below} e b) before old f =
    node_all before (a ∷ l) v below nil old f (held_entries v (end_held v below e) b) (gather_all b (before ++ (a ∷ l))) (λ o g. ap Some (sym (append-nil o)))
gather_all (one_of {a = a} {v = v} {below = below} {later = later} n k e b m) before old f =
    node_all before (a ∷ []) v below later old f (held_entries v e b) (gather_all b (before ++ (a ∷ []))) (gather_all m before)

-- the test of a record's tree
module _ (t : Shape) where
  es : List Entry
  es = entries_below [] t

  held : (r : List Entry) → canonical t ≡ true → gathered [] t [] ≡ Some r → Some r ≡ held_in t
  unfolding es held_in
  held r c g =
      let o = got_all [] t [] r g in
      let n : length es ≤ 64 = omega (arith, o.room (omega arith), ap length o.sum) in
      let f : all_fit es ≡ true = fits_of es (canonical_keys t c) o.short o.vals in
      let s : same_shape t (shape es) ≡ true = ap (same_shape t) (shape_of_fitting t c f) ∙ shape_refl t in
      rw (is_map_lem es n (canonical_rising t c) f, s) (ap Some o.sum)

  is_held : both (is_map es) (same_shape t (shape es)) ≡ true → (canonical t ≡ true) × (gathered [] t [] ≡ Some es)
  unfolding es
  is_held h =
      let p = both_true (is_map es) _ h in
      let e : t ≡ shape es = shape_true t (shape es) p.1 in
      let c : canonical t ≡ true = ap canonical e ∙ shape_canonical es p.0 in
      let f = map_fit es p.0 in
      (c, gather_all (canonical_rules t c) [] [] (record { short = fit_short es f; vals = fit_vals es f; room = omega (arith, map_length es p.0) }))

  pub is_gathered : (r : List Entry) → canonical t ≡ true → gathered [] t [] ≡ Some r → Some r ≡ held_in t
  is_gathered r c g = held r c g

-- the entries of a map are gathered from their shape
pub shape_gathered : (es : List Entry) → is_map es ≡ true → gathered [] (shape es) [] ≡ Some es
shape_gathered es m =
    let f = map_fit es m in
    let b = shape_back es m in
    gather_all (shape_rules es m) [] [] (record {
      short = subst⁻¹ (Short 16) b (fit_short es f);
      vals = subst⁻¹ Vals b (fit_vals es f);
      room = omega (arith, ap length b, map_length es m);
    })
    ∙ ap Some b

pub shape_held : (es : List Entry) → is_map es ≡ true → held_in (shape es) ≡ Some es
shape_held es m = sym (is_gathered (shape es) es (shape_canonical es m) (shape_gathered es m))

-- what is held is a map, and the tree its shape
pub held_map : (t : Shape) (es : List Entry) → held_in t ≡ Some es → (is_map es ≡ true) × (t ≡ shape es)
unfolding held_in
held_map t es h =
    let n = need_some (both (is_map (entries_below [] t)) (same_shape t (shape (entries_below [] t)))) (Some (entries_below [] t)) h in
    let p = both_true (is_map (entries_below [] t)) _ n.0 in
    let e : es ≡ entries_below [] t = some_is n.1 in
    (ap is_map e ∙ p.0, shape_true t (shape (entries_below [] t)) p.1 ∙ ap shape (sym e))
