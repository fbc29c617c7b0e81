-- The walk of the judgement beside those that the definition of a record's entries has: it answers exactly where each of them does, and
-- where every place that it marks is as a place in use has to be. Assumes nothing.
use mathlib.Core.Bool.{Bool, true, false}
use mathlib.Core.Path.{◌≡◌, refl, sym, ap, ap₂, ◌∙◌, subst}
use mathlib.Core.List.{List, ◌∷◌, [], ◌++◌}
use Rattle.std.proofs.Common.{Option, Some, None}
use Prim.Native.Nat.{ℕ, zero, suc, ◌+◌, ◌*◌, ◌^◌, ◌≤◌, ◌<◌}
use native.Mathlib.Omega.{arith}
use borrow.Author.Tests.{eqb-true, eqb-false, lt-ltb, le-leb, ltb-true, leb-true}
use lib.Dec.{leb, ltb, eqb}
use lib.ListN.{length, get_or, set, length-append, length-set}
use lib.Seq.{get_or-set_same, get_or-set_other}
use Rattle.octets.specs.Pick.{pick, both}
use Rattle.octets.proofs.Laws.{both_true, both_of, needed, answered, some_is, length_area}
use Rattle.keys.specs.Entries.{Entry, entry, length_of}
use Rattle.radix.specs.Shape.{Shape, nil, node, first_byte}
use Rattle.radix.specs.Canon.{rules}
use Rattle.radix.specs.Record.{Nodes, label_of, value_of, tree_at, marks_from, is_flag, is_tidy}
use Rattle.radix.specs.Gathering.{with_own, gathered}
use Rattle.radix.proofs.Laws.{step, tree_nil}
use Rattle.radix_judge.specs.Visit.{rule_at, Seen, seen, is_fit, visit}

-- a key flag is 0 or 1
by_flag : {P : Type 0} (f v : ℕ) → is_flag f v ≡ true → (f ≡ 0 → v ≡ 0 → P) → (f ≡ 1 → P) → P
by_flag {P} f v e a b = go (eqb f 0) refl e
  where
    go : (t : Bool) → eqb f 0 ≡ t → pick t (eqb v 0) (eqb f 1) ≡ true → P
    go true z h = a (eqb-true f 0 z) (eqb-true v 0 h)
    go false z h = b (eqb-true f 1 h)

own_room : (k : List ℕ) (f v : ℕ) (es : List Entry) → is_flag f v ≡ true → length es + f ≤ 64 → v < 2 ^ 32
    → (fs : List Entry) × (with_own k (pick (eqb f 0) None (Some v)) es ≡ Some fs) × (length fs ≡ length es + f)
own_room k f v es e n w =
    by_flag f v e (λ z y. (es, rw z, omega (arith, z)))
    (λ z. let m : length es < 64 = omega (arith, z) in (es ++ (entry k v ∷ []), rw (z, lt-ltb (length es) 64 m, lt-ltb v (2 ^ 32) w), omega (arith, z, length-append es (entry k v ∷ []))))

own_took : (k : List ℕ) (f v : ℕ) (es fs : List Entry) → is_flag f v ≡ true → length es ≤ 64 → with_own k (pick (eqb f 0) None (Some v)) es ≡ Some fs
    → (length fs ≡ length es + f) × (length es + f ≤ 64) × (v < 2 ^ 32)
own_took k f v es fs e l h =
    by_flag f v e
    (λ z y. let g : Some es ≡ Some fs = rw z at h in (omega (arith, z, ap length (some_is g)), omega (arith, z), omega (arith, y)))
    (λ z.
    needed (both (ltb (length es) 64) (ltb v (2 ^ 32))) (Some (es ++ (entry k v ∷ []))) (rw z at h)
    (λ t u. let q = both_true (ltb (length es) 64) (ltb v (2 ^ 32)) t in (omega (arith, z, ap length (some_is u), length-append es (entry k v ∷ [])), omega (arith, z, ltb-true (length es) 64 q.0), ltb-true v (2 ^ 32) q.1)))

-- the tests at a place
pub record Fit (first : Bool) (least most : ℕ) (x : Nodes) (p d n : ℕ) : Type 0 where
  pub tidy : is_tidy x p ≡ true
  pub rule : rule_at first least most x p ≡ true
  pub short : d + length_of x.len p ≤ 16
  pub few : n + get_or x.key p 0 ≤ 64
  pub value : get_or x.val p 0 < 2 ^ 32

pub fit_of : (first : Bool) (least most : ℕ) (x : Nodes) (p d n : ℕ) → is_fit first least most x p d n ≡ true → Fit first least most x p d n
unfolding is_fit
fit_of first least most x p d n e =
    let a = both_true (is_tidy x p) _ e in
    let b = both_true (rule_at first least most x p) _ a.1 in
    let f = both_true (leb (d + length_of x.len p) 16) _ b.1 in
    let g = both_true (leb (n + get_or x.key p 0) 64) _ f.1 in
    record {
      tidy = a.0;
      rule = b.0;
      short = leb-true (d + length_of x.len p) 16 f.0;
      few = leb-true (n + get_or x.key p 0) 64 g.0;
      value = ltb-true (get_or x.val p 0) (2 ^ 32) g.1;
    }

is_fit_lem : (first : Bool) (least most : ℕ) (x : Nodes) (p d n : ℕ) → Fit first least most x p d n → is_fit first least most x p d n ≡ true
unfolding is_fit
is_fit_lem first least most x p d n f =
    both_of f.tidy (both_of f.rule (both_of (le-leb (d + length_of x.len p) 16 f.short) (both_of (le-leb (n + get_or x.key p 0) 64 f.few) (lt-ltb (get_or x.val p 0) (2 ^ 32) f.value))))

flag_of_lem : (x : Nodes) (p : ℕ) → is_tidy x p ≡ true → is_flag (get_or x.key p 0) (get_or x.val p 0) ≡ true
unfolding is_tidy
flag_of_lem x p e = (both_true (is_flag (get_or x.key p 0) (get_or x.val p 0)) _ (both_true (leb (get_or x.len p 0) 16) _ e).1).0

-- what a walk that answers r says
pub record Walked (most : ℕ) (x : Nodes) (first : Bool) (least link d n : ℕ) (marks : List ℕ) (r : Seen) : Type 0 where
  pub marked : marks_from most x.child x.next link marks ≡ Some r.marks
  pub kept : rules first least (tree_at most x link) ≡ true
  pub rows : (before : List ℕ) (es : List Entry) → length before ≡ d → length es ≡ n → (fs : List Entry) × (gathered before (tree_at most x link) es ≡ Some fs) × (length fs ≡ r.keys)
  pub tidy : (q : ℕ) → get_or marks q 0 ≡ 0 → (get_or r.marks q 0 ≡ 0 → ⊥) → is_tidy x q ≡ true

marks_none : (child next : List ℕ) (most : ℕ) (marks : List ℕ) → marks_from most child next 0 marks ≡ Some marks
unfolding marks_from
marks_none child next zero marks = refl
marks_none child next (suc most) marks = refl

at_end_lem : (x : Nodes) (most : ℕ) (first : Bool) (least d n : ℕ) (marks : List ℕ) → Walked most x first least 0 d n marks (seen n marks)
unfolding rules gathered
at_end_lem x most first least d n marks =
    record {
      marked = marks_none x.child x.next most marks;
      kept = rw (tree_nil x most);
      rows = λ before es b l. (es, rw (tree_nil x most), l);
      tidy = λ q z w. absurd (w z);
    }

module _ (x : Nodes) (size : length x.label ≡ 4096) (most p : ℕ) (h : p < 256) where
  long : length (label_of x p) ≡ length_of x.len p
  long = length_area (16 * p) (length_of x.len p) x.label (omega (arith, size))

  module _ (first : Bool) (least d n : ℕ) (marks : List ℕ) (z : get_or marks p 0 ≡ 0) (f : Fit first least most x p d n) (r s : Seen) where
    abbrev Below : Type 0
    Below = Walked most x true 0 (get_or x.child p 0) (d + length_of x.len p) (n + get_or x.key p 0) (set marks p 1) r

    abbrev Later : Type 0
    Later = Walked most x false (first_byte (label_of x p) + 1) (get_or x.next p 0) d r.keys r.marks s

    all_marked : Below → Later → marks_from (suc most) x.child x.next (suc p) marks ≡ Some s.marks
    unfolding marks_from
    all_marked a b = rw (lt-ltb p 256 h, z, a.marked) b.marked

    all_kept : Below → Later → rules first least (tree_at (suc most) x (suc p)) ≡ true
    unfolding rules rule_at
    all_kept a b = ap (rules first least) (step x most p h) ∙ both_of f.rule (both_of a.kept b.kept)

    all_rows : Below → Later → (before : List ℕ) (es : List Entry) → length before ≡ d → length es ≡ n → (fs : List Entry) × (gathered before (tree_at (suc most) x (suc p)) es ≡ Some fs) × (length fs ≡ s.keys)
    unfolding gathered
    all_rows a b before es bl el =
        let own = own_room (before ++ label_of x p) (get_or x.key p 0) (get_or x.val p 0) es (flag_of_lem x p f.tidy) (omega (arith, el, f.few)) f.value in
        let low = a.rows (before ++ label_of x p) own.0 (omega (arith, length-append before (label_of x p), long, bl)) (omega (arith, own.2, el)) in
        let rest = b.rows before low.0 bl low.2 in
        let deep : length before + length (label_of x p) ≤ 16 = omega (arith, long, bl, f.short) in
        (rest.0, rw (step x most p h, le-leb (length before + length (label_of x p)) 16 deep, own.1, low.1) rest.1, rest.2)

    all_tidy : Below → Later → (q : ℕ) → get_or marks q 0 ≡ 0 → (get_or s.marks q 0 ≡ 0 → ⊥) → is_tidy x q ≡ true
    all_tidy a b q y w = after (eqb (get_or r.marks q 0) 0) refl
      where
        here : (t : Bool) → eqb q p ≡ t → (get_or r.marks q 0 ≡ 0 → ⊥) → is_tidy x q ≡ true
        here true e v = ap (is_tidy x) (eqb-true q p e) ∙ f.tidy
        here false e v = a.tidy q (get_or-set_other marks p q 1 0 (eqb-false q p e) ∙ y) v

        after : (t : Bool) → eqb (get_or r.marks q 0) 0 ≡ t → is_tidy x q ≡ true
        after true e = b.tidy q (eqb-true (get_or r.marks q 0) 0 e) w
        after false e = here (eqb q p) refl (eqb-false (get_or r.marks q 0) 0 e)

    stepped : Below → Later → Walked (suc most) x first least (suc p) d n marks s
    stepped a b = record { marked = all_marked a b; kept = all_kept a b; rows = all_rows a b; tidy = all_tidy a b }

pub walked : (x : Nodes) → length x.label ≡ 4096 → (most : ℕ) (first : Bool) (least link d n : ℕ) (marks : List ℕ) (r : Seen) → visit most x first least link d n marks ≡ Some r → Walked most x first least link d n marks r
unfolding visit
walked x size zero first least link d n marks r e =
    needed (eqb link 0) (Some (seen n marks)) e
    (λ t u. subst (λ (l : ℕ). Walked zero x first least l d n marks r) (sym (eqb-true link 0 t)) (subst (Walked zero x first least 0 d n marks) (some_is u) (at_end_lem x zero first least d n marks)))
walked x size (suc most) first least zero d n marks r e = subst (Walked (suc most) x first least 0 d n marks) (some_is e) (at_end_lem x (suc most) first least d n marks)
walked x size (suc most) first least (suc p) d n marks r e =
    needed (both (ltb p 256) (eqb (get_or marks p 0) 0)) _ e
    (λ t u.
    needed (is_fit first least most x p d n) _ u
    (λ v w.
    answered (visit most x true 0 (get_or x.child p 0) (d + length_of x.len p) (n + get_or x.key p 0) (set marks p 1)) _ w
    (λ s y g.
    let q = both_true (ltb p 256) (eqb (get_or marks p 0) 0) t in
    stepped x size most p (ltb-true p 256 q.0) first least d n marks (eqb-true (get_or marks p 0) 0 q.1) (fit_of first least most x p d n v) s r
    (walked x size most true 0 (get_or x.child p 0) (d + length_of x.len p) (n + get_or x.key p 0) (set marks p 1) s y)
    (walked x size most false (first_byte (label_of x p) + 1) (get_or x.next p 0) d s.keys s.marks r g))))

-- and the other way round; marks stay, and stay within the pool
pub marks_stay : (child next : List ℕ) (most link : ℕ) (m o : List ℕ) (q : ℕ) → marks_from most child next link m ≡ Some o → (get_or m q 0 ≡ 0 → ⊥) → get_or o q 0 ≡ 0 → ⊥
unfolding marks_from
marks_stay child next zero link m o q e z =
    needed (eqb link 0) (Some m) e (λ t u. subst (λ (l : List ℕ). get_or l q 0 ≡ 0 → ⊥) (some_is u) z)
marks_stay child next (suc most) zero m o q e z = subst (λ (l : List ℕ). get_or l q 0 ≡ 0 → ⊥) (some_is e) z
marks_stay child next (suc most) (suc p) m o q e z =
    needed (both (ltb p 256) (eqb (get_or m p 0) 0)) _ e
    (λ t u.
    answered (marks_from most child next (get_or child p 0) (set m p 1)) _ u
    (λ l y g.
    let f : get_or m p 0 ≡ 0 = eqb-true (get_or m p 0) 0 (both_true (ltb p 256) (eqb (get_or m p 0) 0) t).1 in
    marks_stay child next most (get_or next p 0) l o q g
    (marks_stay child next most (get_or child p 0) (set m p 1) l q y
    (λ w. z (sym (get_or-set_other m p q 1 0 (λ i. z (ap (λ (j : ℕ). get_or m j 0) i ∙ f))) ∙ w)))))

pub marks_long : (child next : List ℕ) (most link : ℕ) (m o : List ℕ) → marks_from most child next link m ≡ Some o → length o ≡ length m
unfolding marks_from
marks_long child next zero link m o e = needed (eqb link 0) (Some m) e (λ t u. ap length (sym (some_is u)))
marks_long child next (suc most) zero m o e = ap length (sym (some_is e))
marks_long child next (suc most) (suc p) m o e =
    needed (both (ltb p 256) (eqb (get_or m p 0) 0)) _ e
    (λ t u.
    answered (marks_from most child next (get_or child p 0) (set m p 1)) _ u
    (λ l y g. marks_long child next most (get_or next p 0) l o g ∙ marks_long child next most (get_or child p 0) (set m p 1) l y ∙ length-set m p 1))

-- at most 64 rows
own_few : (k : List ℕ) (v : Option ℕ) (es fs : List Entry) → length es ≤ 64 → with_own k v es ≡ Some fs → length fs ≤ 64
own_few k None es fs l e = subst (λ (r : List Entry). length r ≤ 64) (some_is e) l
own_few k (Some v) es fs l e =
    needed (both (ltb (length es) 64) (ltb v (2 ^ 32))) (Some (es ++ (entry k v ∷ []))) e
    (λ t u. omega (arith, ap length (some_is u), length-append es (entry k v ∷ []), ltb-true (length es) 64 (both_true (ltb (length es) 64) (ltb v (2 ^ 32)) t).0))

few : (before : List ℕ) (s : Shape) (es fs : List Entry) → length es ≤ 64 → gathered before s es ≡ Some fs → length fs ≤ 64
unfolding gathered
few before nil es fs l e = subst (λ (r : List Entry). length r ≤ 64) (some_is e) l
few before (node label v below later) es fs l e =
    needed (leb (length before + length label) 16) _ e
    (λ t u.
    answered (with_own (before ++ label) v es) _ u
    (λ gs y g.
    answered (gathered (before ++ label) below gs) (gathered before later) g
    (λ hs w i. few before later hs fs (few (before ++ label) below gs hs (own_few (before ++ label) v es gs l y) w) i)))

abbrev pub AllTidy : Nodes → List ℕ → Type 0
AllTidy x o = (q : ℕ) → (get_or o q 0 ≡ 0 → ⊥) → is_tidy x q ≡ true

pub visits : (x : Nodes) → length x.label ≡ 4096 → (most : ℕ) (first : Bool) (least link d n : ℕ) (m o : List ℕ) (before : List ℕ) (es fs : List Entry)
    → length m ≡ 256 → length es ≤ 64 → length before ≡ d → length es ≡ n → marks_from most x.child x.next link m ≡ Some o → rules first least (tree_at most x link) ≡ true
    → gathered before (tree_at most x link) es ≡ Some fs → AllTidy x o → visit most x first least link d n m ≡ Some (seen (length fs) o)
unfolding visit marks_from tree_at gathered rules rule_at
visits x size zero first least link d n m o before es fs ml l bl el em er eg tidy =
    needed (eqb link 0) (Some m) em
    (λ t u. rw t (ap Some (ap₂ seen (sym el ∙ ap length (some_is eg)) (some_is u))))
visits x size (suc most) first least zero d n m o before es fs ml l bl el em er eg tidy =
    ap Some (ap₂ seen (sym el ∙ ap length (some_is eg)) (some_is em))
visits x size (suc most) first least (suc p) d n m o before es fs ml l bl el em er eg tidy =
    needed (both (ltb p 256) (eqb (get_or m p 0) 0)) _ em
    (λ t u.
    let q = both_true (ltb p 256) (eqb (get_or m p 0) 0) t in
    let h : p < 256 = ltb-true p 256 q.0 in
    answered (marks_from most x.child x.next (get_or x.child p 0) (set m p 1)) _ u
    (λ c y g.
    let r = both_true (rule_at first least most x p) _ (sym (ap (rules first least) (step x most p h)) ∙ er) in
    let rr = both_true (rules true 0 (tree_at most x (get_or x.child p 0))) _ r.1 in
    needed (leb (length before + length (label_of x p)) 16) _ (sym (ap (λ (s : Shape). gathered before s es) (step x most p h)) ∙ eg)
    (λ deep v.
    answered (with_own (before ++ label_of x p) (value_of x p) es) _ v
    (λ gs own w.
    answered (gathered (before ++ label_of x p) (tree_at most x (get_or x.child p 0)) gs) (gathered before (tree_at most x (get_or x.next p 0))) w
    (λ hs low rest.
    let here : get_or (set m p 1) p 0 ≡ 0 → ⊥ = λ z. let i = get_or-set_same m p 1 0 (omega (arith, ml)) in omega (arith, sym i ∙ z) in
    let tidy_p = tidy p (marks_stay x.child x.next most (get_or x.next p 0) c o p g (marks_stay x.child x.next most (get_or x.child p 0) (set m p 1) c p y here)) in
    let took = own_took (before ++ label_of x p) (get_or x.key p 0) (get_or x.val p 0) es gs (flag_of_lem x p tidy_p) l own in
    let lg = long x size most p h in
    let fit : is_fit first least most x p d n ≡ true = is_fit_lem first least most x p d n (record { tidy = tidy_p; rule = r.0; short = omega (arith, lg, bl, leb-true (length before + length (label_of x p)) 16 deep); few = omega (arith, el, took.1); value = took.2 }) in
    let one = visits x size most true 0 (get_or x.child p 0) (d + length_of x.len p) (n + get_or x.key p 0) (set m p 1) c (before ++ label_of x p) gs hs (length-set m p 1 ∙ ml) (omega (arith, took.0, took.1)) (omega (arith, length-append before (label_of x p), lg, bl)) (omega (arith, took.0, el)) y rr.0 low (λ i z. tidy i (marks_stay x.child x.next most (get_or x.next p 0) c o i g z)) in
    let two = visits x size most false (first_byte (label_of x p) + 1) (get_or x.next p 0) d (length hs) c o before hs fs (marks_long x.child x.next most (get_or x.child p 0) (set m p 1) c y ∙ length-set m p 1 ∙ ml) (few (before ++ label_of x p) (tree_at most x (get_or x.child p 0)) gs hs (omega (arith, took.0, took.1)) low) bl refl g rr.1 rest tidy in
    rw (t, fit, one) two)))))
