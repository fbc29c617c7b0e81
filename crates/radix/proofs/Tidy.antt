-- Places of a record, free or in use, test by test. Assumes nothing.
use mathlib.Core.Bool.{Bool, true, false}
use mathlib.Core.Path.{◌≡◌, ap, ◌∙◌}
use mathlib.Core.List.{List}
use Prim.Native.Nat.{ℕ, ◌+◌, ◌*◌, ◌-◌, ◌≤◌, ◌<◌}
use borrow.Author.Tests.{ne_eqb, le-leb, lt-leb}
use lib.ListN.{get_or, take, drop}
use Rattle.octets.specs.Place.{area}
use Rattle.octets.specs.Compare.{all_zero}
use Rattle.octets.proofs.Laws.{part_area}
use Rattle.radix.specs.Record.{Nodes, is_free, is_flag, is_tidy}

-- bytes of a lent part
pub zero_part : (l : List ℕ) (at n m : ℕ) → n ≡ m → all_zero (take n (drop at l)) ≡ all_zero (area at m l)
zero_part l at n m e = ap all_zero (part_area at n l ∙ ap (λ (k : ℕ). area at k l) e)

module _ (x : Nodes) (p a : ℕ) (e : a ≡ get_or x.len p 0) where
  pub free_len : (a ≡ 0 → ⊥) → false ≡ is_free x p
  unfolding is_free
  free_len z = rw (← e, ne_eqb a 0 z)

  module _ (z : a ≡ 0) (b : ℕ) (f : b ≡ get_or x.key p 0) where
    pub free_key : (b ≡ 0 → ⊥) → false ≡ is_free x p
    unfolding is_free
    free_key y = rw (← e, z, ← f, ne_eqb b 0 y)

    module _ (y : b ≡ 0) (c : ℕ) (g : c ≡ get_or x.child p 0) where
      pub free_child : (c ≡ 0 → ⊥) → false ≡ is_free x p
      unfolding is_free
      free_child w = rw (← e, z, ← f, y, ← g, ne_eqb c 0 w)

      module _ (w : c ≡ 0) (d : ℕ) (h : d ≡ get_or x.next p 0) where
        pub free_next : (d ≡ 0 → ⊥) → false ≡ is_free x p
        unfolding is_free
        free_next v = rw (← e, z, ← f, y, ← g, w, ← h, ne_eqb d 0 v)

        module _ (v : d ≡ 0) (k : ℕ) (i : k ≡ get_or x.val p 0) where
          pub free_val : (k ≡ 0 → ⊥) → false ≡ is_free x p
          unfolding is_free
          free_val u = rw (← e, z, ← f, y, ← g, w, ← h, v, ← i, ne_eqb k 0 u)

          pub free_label : k ≡ 0 → (t : Bool) → t ≡ all_zero (area (16 * p) 16 x.label) → t ≡ is_free x p
          unfolding is_free
          free_label u t r = rw (← e, z, ← f, y, ← g, w, ← h, v, ← i, u) r

  -- the same for a place in use
  pub tidy_long : 16 < a → false ≡ is_tidy x p
  unfolding is_tidy
  tidy_long l = rw (← e, lt-leb a 16 l)

  module _ (l : a ≤ 16) (b : Bool) (f : b ≡ is_flag (get_or x.key p 0) (get_or x.val p 0)) where
    pub tidy_flag : b ≡ false → false ≡ is_tidy x p
    unfolding is_tidy
    tidy_flag z = rw (← e, le-leb a 16 l, ← f, z)

    pub tidy_tail : b ≡ true → (t : Bool) → t ≡ all_zero (area (16 * p + a) (16 - a) x.label) → t ≡ is_tidy x p
    unfolding is_tidy
    tidy_tail z t r = rw (← e, le-leb a 16 l, ← f, z) r
