-- The marks of a walk, one node at a time. Assumes nothing.
use mathlib.Core.Path.{◌≡◌, ap₂, ◌∙◌}
use mathlib.Core.List.{List}
use Rattle.std.proofs.Common.{Some}
use Prim.Native.Nat.{ℕ, zero, suc, ◌-◌, ◌≤◌, ◌<◌}
use native.Mathlib.Omega.{arith}
use borrow.Author.Tests.{lt-ltb}
use lib.ListN.{get_or, set}
use Rattle.octets.specs.Maybe.{◌>>=◌}
use Rattle.radix.specs.Record.{marks_from}

module _ (child next : List ℕ) where
  pub mark_none : (most link : ℕ) (m : List ℕ) → link ≡ 0 → marks_from most child next link m ≡ Some m
  unfolding marks_from
  mark_none zero link m e = rw e
  mark_none (suc most) link m e = rw e

  step : (most p : ℕ) (m : List ℕ) → p < 256 → get_or m p 0 ≡ 0
      → marks_from (suc most) child next (suc p) m ≡ (marks_from most child next (get_or child p 0) (set m p 1) >>= marks_from most child next (get_or next p 0))
  unfolding marks_from
  step most p m h e = rw (lt-ltb p 256 h, e)

  module _ (most link : ℕ) (m : List ℕ) (a : 0 < link) (b : link ≤ 256) where
    module _ (h : 0 < most) (z : get_or m (link - 1) 0 ≡ 0) where
      pub mark_step : marks_from most child next link m
          ≡ (marks_from (most - 1) child next (get_or child (link - 1) 0) (set m (link - 1) 1) >>= marks_from (most - 1) child next (get_or next (link - 1) 0))
      mark_step =
          let e : link ≡ suc (link - 1) = omega arith in
          let f : most ≡ suc (most - 1) = omega arith in
          ap₂ (λ (n l : ℕ). marks_from n child next l m) f e ∙ step (most - 1) (link - 1) m (omega arith) z
