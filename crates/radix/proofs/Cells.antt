-- Places of the pool written one after the other: what is written, and what is kept. Assumes nothing.
use mathlib.Core.Bool.{Bool, true, false}
use mathlib.Core.Path.{◌≡◌, refl, sym, ap, ◌∙◌}
use mathlib.Core.List.{List, ◌++◌}
use Rattle.std.proofs.Common.{Option}
use Prim.Native.Nat.{ℕ, ◌+◌, ◌*◌, ◌≤◌, ◌<◌}
use native.Mathlib.Nat.{add-zero, zero-add}
use native.Mathlib.Omega.{arith}
use borrow.Author.Tests.{leb-true, leb-false}
use lib.Dec.{leb}
use lib.ListN.{length, get_or, drop, length-set}
use lib.Seq.{get_or-set_same, get_or-set_other}
use Rattle.octets.specs.Bytes.{zeros}
use Rattle.octets.specs.Place.{area, put}
use Rattle.octets.proofs.Laws.{area_before, area_after, area_put_in, length_put}
use Rattle.radix.specs.Shape.{Shape, nil, node, nodes}
use Rattle.radix.specs.Record.{Nodes}
use Rattle.radix.specs.Layout.{flag_of, value_or0, with_cell, link_to, laid}

pub record Long (x : Nodes) : Type 0 where
  pub len : length x.len ≡ 256
  pub key : length x.key ≡ 256
  pub child : length x.child ≡ 256
  pub next : length x.next ≡ 256
  pub val : length x.val ≡ 256
  pub label : length x.label ≡ 4096

-- the same at place q
pub record Same (x y : Nodes) (q : ℕ) : Type 0 where
  pub len : get_or x.len q 0 ≡ get_or y.len q 0
  pub key : get_or x.key q 0 ≡ get_or y.key q 0
  pub child : get_or x.child q 0 ≡ get_or y.child q 0
  pub next : get_or x.next q 0 ≡ get_or y.next q 0
  pub val : get_or x.val q 0 ≡ get_or y.val q 0
  pub cell : area (16 * q) 16 x.label ≡ area (16 * q) 16 y.label

pub same_trans : {x y z : Nodes} {q : ℕ} → Same x y q → Same y z q → Same x z q
same_trans a b =
    record {
      len = a.len ∙ b.len;
      key = a.key ∙ b.key;
      child = a.child ∙ b.child;
      next = a.next ∙ b.next;
      val = a.val ∙ b.val;
      cell = a.cell ∙ b.cell;
    }

-- a node at place p
pub record NodeAt (x : Nodes) (p : ℕ) (l : List ℕ) (v : Option ℕ) (c n : ℕ) : Type 0 where
  pub len : get_or x.len p 0 ≡ length l
  pub key : get_or x.key p 0 ≡ flag_of v
  pub child : get_or x.child p 0 ≡ c
  pub next : get_or x.next p 0 ≡ n
  pub val : get_or x.val p 0 ≡ value_or0 v
  pub cell : area (16 * p) 16 x.label ≡ l ++ drop (length l) (zeros 16)

node_same : {x y : Nodes} {p : ℕ} {l : List ℕ} {v : Option ℕ} {c n : ℕ} → Same y x p → NodeAt x p l v c n → NodeAt y p l v c n
node_same s a =
    record {
      len = s.len ∙ a.len;
      key = s.key ∙ a.key;
      child = s.child ∙ a.child;
      next = s.next ∙ a.next;
      val = s.val ∙ a.val;
      cell = s.cell ∙ a.cell;
    }

-- a place written
module _ (x : Nodes) (p : ℕ) (l : List ℕ) (v : Option ℕ) (c n : ℕ) (g : Long x) (h : p < 256) (k : length l ≤ 16) where
  abbrev new : Nodes
  new = with_cell x p l (flag_of v) (value_or0 v) c n

  long_written : Long new
  long_written =
      record {
        len = length-set x.len p (length l) ∙ g.len;
        key = length-set x.key p (flag_of v) ∙ g.key;
        child = length-set x.child p c ∙ g.child;
        next = length-set x.next p n ∙ g.next;
        val = length-set x.val p (value_or0 v) ∙ g.val;
        label = length_put x.label (16 * p) l (omega (arith, g.label)) ∙ g.label;
      }

  written : area (16 * p) 16 x.label ≡ zeros 16 → NodeAt new p l v c n
  unfolding put
  written z =
      record {
        len = get_or-set_same x.len p (length l) 0 (omega (arith, g.len));
        key = get_or-set_same x.key p (flag_of v) 0 (omega (arith, g.key));
        child = get_or-set_same x.child p c 0 (omega (arith, g.child));
        next = get_or-set_same x.next p n 0 (omega (arith, g.next));
        val = get_or-set_same x.val p (value_or0 v) 0 (omega (arith, g.val));
        cell =
            ap (λ (i : ℕ). area (16 * p) 16 (put x.label i l)) (sym (add-zero (16 * p)))
            ∙ area_put_in x.label (16 * p) 16 0 l (omega arith) (omega (arith, g.label))
            ∙ ap (λ (s : List ℕ). put s 0 l) z
            ∙ ap (λ (i : ℕ). l ++ drop i (zeros 16)) (zero-add (length l));
      }

  kept : (q : ℕ) → (q ≡ p → ⊥) → Same new x q
  kept q d =
      record {
        len = get_or-set_other x.len p q (length l) 0 d;
        key = get_or-set_other x.key p q (flag_of v) 0 d;
        child = get_or-set_other x.child p q c 0 d;
        next = get_or-set_other x.next p q n 0 d;
        val = get_or-set_other x.val p q (value_or0 v) 0 d;
        cell = side (leb q p) refl;
      }
    where
      side : (t : Bool) → leb q p ≡ t → area (16 * q) 16 (put x.label (16 * p) l) ≡ area (16 * q) 16 x.label
      side true e = let z : q ≤ p = leb-true q p e in area_before x.label (16 * p) l (omega (arith, g.label)) (16 * q) 16 (omega arith)
      side false e = let z : p < q = leb-false q p e in area_after x.label (16 * p) l (omega (arith, g.label)) (16 * q) 16 (omega arith)

-- labels of at most 16 bytes
abbrev pub Labels : Shape → Type 0
Labels nil = Unit {0}
Labels (node l v below later) = (length l ≤ 16) × (Labels below × Labels later)

-- the shape s stands from place n on
abbrev pub Stands : Nodes → ℕ → Shape → Type 0
Stands x n nil = Unit {0}
Stands x n (node l v below later) =
    NodeAt x (n + nodes later + nodes below) l v (link_to (n + nodes later) below) (link_to n later) × (Stands x (n + nodes later) below × Stands x n later)

pub stands_same : (s : Shape) (n : ℕ) {x y : Nodes} → ((q : ℕ) → n ≤ q → q < n + nodes s → Same y x q) → Stands x n s → Stands y n s
unfolding nodes
stands_same nil n f h = tt
stands_same (node l v below later) n f h = (
  node_same (f (n + nodes later + nodes below) (omega arith) (omega arith)) h.0,
  (stands_same below (n + nodes later) (λ q p r. f q (omega arith) (omega arith)) h.1.0, stands_same later n (λ q p r. f q p (omega arith)) h.1.1),
)

pub record Laid (s : Shape) (n : ℕ) (x y : Nodes) : Type 0 where
  pub long : Long y
  pub stands : Stands y n s
  pub before : (q : ℕ) → q < n → Same y x q
  pub after : (q : ℕ) → n + nodes s ≤ q → Same y x q

same_refl : (x : Nodes) (q : ℕ) → Same x x q
same_refl x q = record { len = refl; key = refl; child = refl; next = refl; val = refl; cell = refl }

pub laid_all : (s : Shape) (n : ℕ) (x : Nodes) → Long x → n + nodes s ≤ 256 → Labels s → ((q : ℕ) → n ≤ q → q < 256 → area (16 * q) 16 x.label ≡ zeros 16) → Laid s n x (laid s n x)
unfolding laid nodes
laid_all nil n x g h l z = record { long = g; stands = tt; before = λ q p. same_refl x q; after = λ q p. same_refl x q }
laid_all (node l v below later) n x g h f z =
    let a = laid_all later n x g (omega arith) f.1.1 z in
    let m = n + nodes later in
    let b = laid_all below m (laid later n x) a.long (omega arith) f.1.0 (λ q p r. (a.after q p).cell ∙ z q (omega arith) r) in
    let p = m + nodes below in
    let y = laid below m (laid later n x) in
    let c = link_to m below in
    let d = link_to n later in
    let k = kept y p l v c d b.long (omega arith) f.0 in
    record {
      long = long_written y p l v c d b.long (omega arith) f.0;
      stands = (
        written y p l v c d b.long (omega arith) f.0 ((b.after p (omega arith)).cell ∙ (a.after p (omega arith)).cell ∙ z p (omega arith) (omega arith)),
        (
          stands_same below m (λ q i j. k q (omega arith)) b.stands,
          stands_same later n (λ q i j. same_trans (k q (omega arith)) (b.before q j)) a.stands,
        ),
      );
      before = λ q i. same_trans (k q (omega arith)) (same_trans (b.before q (omega arith)) (a.before q i));
      after = λ q i. same_trans (k q (omega arith)) (same_trans (b.after q (omega arith)) (a.after q (omega arith)));
    }
