-- The walk of the judgement, one node at a time. Assumes nothing.
use mathlib.Core.Bool.{Bool, true, false}
use mathlib.Core.Path.{◌≡◌, refl, ap₂, ◌∙◌}
use mathlib.Core.List.{List}
use Rattle.std.proofs.Common.{Option, Some, None}
use Prim.Native.Nat.{ℕ, zero, suc, ◌+◌, ◌-◌, ◌≤◌, ◌<◌}
use native.Mathlib.Omega.{arith}
use borrow.Author.Tests.{ne_eqb, lt-ltb, le-ltb}
use lib.ListN.{get_or, set}
use Rattle.octets.specs.Maybe.{need, ◌>>◌, ◌>>=◌}
use Rattle.keys.specs.Entries.{length_of}
use Rattle.radix.specs.Shape.{first_byte}
use Rattle.radix.specs.Record.{Nodes, label_of}
use Rattle.radix_judge.specs.Visit.{Seen, seen, seen_of, is_fit, visit}

module _ (x : Nodes) (first : Bool) (least : ℕ) where
  pub visit_none : (most link d n : ℕ) (m : List ℕ) → link ≡ 0 → Some (seen n m) ≡ visit most x first least link d n m
  unfolding visit
  visit_none zero link d n m e = rw e
  visit_none (suc most) link d n m e = rw e

  pub visit_end : (most link d n : ℕ) (m : List ℕ) → most ≡ 0 → (link ≡ 0 → ⊥) → None ≡ visit most x first least link d n m
  unfolding visit
  visit_end most link d n m e z = rw (e, ne_eqb link 0 z)

  out : (most p d n : ℕ) (m : List ℕ) → 256 ≤ p → None ≡ visit most x first least (suc p) d n m
  unfolding visit
  out zero p d n m h = rw (ne_eqb (suc p) 0 (λ e. omega arith))
  out (suc most) p d n m h = rw (le-ltb p 256 h)

  twice : (most p d n : ℕ) (m : List ℕ) → p < 256 → (get_or m p 0 ≡ 0 → ⊥) → None ≡ visit most x first least (suc p) d n m
  unfolding visit
  twice zero p d n m h z = rw (ne_eqb (suc p) 0 (λ e. omega arith))
  twice (suc most) p d n m h z = rw (lt-ltb p 256 h, ne_eqb _ _ z)

  -- a node's own test, then what lies below it, then its later siblings
  abbrev Rest : ℕ → ℕ → ℕ → ℕ → List ℕ → Option Seen
  Rest most p d n m =
      visit most x true 0 (get_or x.child p 0) (d + length_of x.len p) (n + get_or x.key p 0) (set m p 1)
      >>= (λ (r : Seen). visit most x false (first_byte (label_of x p) + 1) (get_or x.next p 0) d r.keys r.marks)

  step : (most p d n : ℕ) (m : List ℕ) → p < 256 → get_or m p 0 ≡ 0 → (t : Bool) → t ≡ is_fit first least most x p d n
      → visit (suc most) x first least (suc p) d n m ≡ (need t >> Rest most p d n m)
  unfolding visit
  step most p d n m h z t f = rw (lt-ltb p 256 h, z, f)

  pub visit_out : (most link d n : ℕ) (m : List ℕ) → 256 < link → None ≡ visit most x first least link d n m
  visit_out most link d n m h =
      let e : suc (link - 1) ≡ link = omega arith in
      out most (link - 1) d n m (omega arith) ∙ ap₂ (λ (i l : ℕ). visit i x first least l d n m) refl e

  module _ (most link d n : ℕ) (m : List ℕ) (a : 0 < link) (b : link ≤ 256) where
    pub visit_twice : (get_or m (link - 1) 0 ≡ 0 → ⊥) → None ≡ visit most x first least link d n m
    visit_twice z =
        let e : suc (link - 1) ≡ link = omega arith in
        twice most (link - 1) d n m (omega arith) z ∙ ap₂ (λ (i l : ℕ). visit i x first least l d n m) refl e

    module _ (h : 0 < most) (z : get_or m (link - 1) 0 ≡ 0) (t : Bool) (f : t ≡ is_fit first least (most - 1) x (link - 1) d n) where
      whole : visit most x first least link d n m ≡ (need t >> Rest (most - 1) (link - 1) d n m)
      whole =
          let e : link ≡ suc (link - 1) = omega arith in
          let g : most ≡ suc (most - 1) = omega arith in
          ap₂ (λ (i l : ℕ). visit i x first least l d n m) g e ∙ step (most - 1) (link - 1) d n m (omega arith) z t f

      pub visit_unfit : t ≡ false → None ≡ visit most x first least link d n m
      visit_unfit e = rw (whole, e)

      -- the children's walk answers r and leaves l
      module _ (e : t ≡ true) (c o k : ℕ) (r : Option ℕ) (l : List ℕ) (ec : c ≡ get_or x.child (link - 1) 0) (eo : o ≡ length_of x.len (link - 1)) (ek : k ≡ get_or x.key (link - 1) 0)
          (w : seen_of r l ≡ visit (most - 1) x true 0 c (d + o) (n + k) (set m (link - 1) 1)) where
        pub visit_stop : r ≡ None → None ≡ visit most x first least link d n m
        visit_stop i = rw (whole, e, ← ec, ← eo, ← ek, ← w, i)

        pub visit_more : (j : ℕ) → r ≡ Some j → (g y : ℕ) → g ≡ get_or x.next (link - 1) 0 → y ≡ first_byte (label_of x (link - 1))
            → visit (most - 1) x false (y + 1) g d j l ≡ visit most x first least link d n m
        visit_more j i g y eg ey = rw (whole, e, ← ey, ← eg, ← ec, ← eo, ← ek, ← w, i)
