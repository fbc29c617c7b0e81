-- The judgement of a record, test by test. Assumes nothing.
use mathlib.Core.Bool.{Bool, true, false, true≢false}
use mathlib.Core.Path.{◌≡◌, sym}
use mathlib.Core.List.{List}
use Rattle.std.proofs.Common.{Option, Some, None, is_none}
use Prim.Native.Nat.{ℕ, ◌≤◌, ◌<◌}
use borrow.Author.Tests.{lt-ltb, le-ltb}
use lib.ListN.{get_or, set}
use Rattle.octets.specs.Pick.{both}
use Rattle.octets.specs.Bytes.{zeros}
use Rattle.radix.specs.Record.{nodes_of, is_root, is_tidy}
use Rattle.radix.specs.declared.Index.{Index}
use Rattle.radix_judge.specs.Visit.{seen_of, visit, are_free, is_sound}

module _ (x : Index) (q : ℕ) (e : q ≡ x.root) where
  pub sound_out : 256 ≤ q → false ≡ is_sound x
  unfolding is_sound
  sound_out h = rw (← e, le-ltb q 256 h)

  module _ (h : q < 256) (t : Bool) (f : t ≡ both (is_root (nodes_of x) q) (is_tidy (nodes_of x) q)) where
    pub sound_root : t ≡ false → false ≡ is_sound x
    unfolding is_sound
    sound_root z = rw (← e, lt-ltb q 256 h, ← f, z)

    module _ (z : t ≡ true) (first : ℕ) (r : Option ℕ) (m : List ℕ) (g : first ≡ get_or x.child q 0) (w : seen_of r m ≡ visit 256 (nodes_of x) true 0 first 0 0 (set (zeros 256) q 1)) where
      pub sound_stop : is_none r ≡ true → false ≡ is_sound x
      unfolding is_sound
      sound_stop i = by r w i
        where
          by : (o : Option ℕ) → seen_of o m ≡ visit 256 (nodes_of x) true 0 first 0 0 (set (zeros 256) q 1) → is_none o ≡ true → false ≡ is_sound x
          by None v j = rw (← e, lt-ltb q 256 h, ← f, z, ← g, ← v)
          by (Some n) v j = absurd (true≢false (sym j))

      pub sound_rest : is_none r ≡ false → (b : Bool) → b ≡ are_free (nodes_of x) m 0 256 → b ≡ is_sound x
      unfolding is_sound
      sound_rest i b y = by r w i
        where
          by : (o : Option ℕ) → seen_of o m ≡ visit 256 (nodes_of x) true 0 first 0 0 (set (zeros 256) q 1) → is_none o ≡ false → b ≡ is_sound x
          by None v j = absurd (true≢false j)
          by (Some n) v j = rw (← e, lt-ltb q 256 h, ← f, z, ← g, ← v) y
