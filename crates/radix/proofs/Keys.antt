-- The first bytes of the keys of a list of entries, and keys below some bytes. Assumes nothing.
use mathlib.Core.Path.{◌≡◌, refl, ap}
use mathlib.Core.Bool.{false}
use mathlib.Core.List.{List, [], ◌∷◌, ◌++◌}
use Rattle.std.proofs.Common.{None}
use Prim.Native.Nat.{ℕ, suc, ◌≤◌}
use native.Mathlib.Omega.{arith}
use lib.Dec.{eqb}
use lib.ListN.{length, length-append}
use borrow.Author.Tests.{ne_eqb}
use Rattle.keys.specs.Entries.{Entry, entry}
use Rattle.radix.specs.Shape.{own, longer, first_byte, starting_with, not_starting_with}
use Rattle.radix.proofs.Under.{under}
use Rattle.keys.proofs.Laws.{Keys, Short, keys_map}

-- a byte n or more stands first
abbrev pub StartsAt : ℕ → List ℕ → Type 0
StartsAt n [] = ⊥
StartsAt n (b ∷ k) = n ≤ b

abbrev pub From : ℕ → List Entry → Type 0
From n es = Keys (StartsAt n) es

module _ (P : List ℕ → Type 0) where
  pub keys_below : (l : List ℕ) → ((k : List ℕ) → P (l ++ k)) → (es : List Entry) → Keys P (under l es)
  keys_below l f [] = tt
  keys_below l f (e ∷ es) = (f e.key, keys_below l f es)

module _ (P Q : List ℕ → Type 0) where
  pub keys_under : (l : List ℕ) → ((k : List ℕ) → P k → Q (l ++ k)) → (es : List Entry) → Keys P es → Keys Q (under l es)
  keys_under l f [] h = tt
  keys_under l f (e ∷ es) h = (f e.key h.0, keys_under l f es h.1)

  pub keys_of_under : (l : List ℕ) → ((k : List ℕ) → P (l ++ k) → Q k) → (es : List Entry) → Keys P (under l es) → Keys Q es
  keys_of_under l f [] h = tt
  keys_of_under l f (e ∷ es) h = (f e.key h.0, keys_of_under l f es h.1)

starts_weaken : (m n : ℕ) → m ≤ n → (k : List ℕ) → StartsAt n k → StartsAt m k
starts_weaken m n h [] p = p
starts_weaken m n h (b ∷ k) p = omega arith

pub from_weaken : (m n : ℕ) → m ≤ n → (es : List Entry) → From n es → From m es
from_weaken m n h es = keys_map (StartsAt n) (StartsAt m) (starts_weaken m n h) es

pub from_under : (n a : ℕ) (l : List ℕ) → n ≤ a → (es : List Entry) → From n (under (a ∷ l) es)
from_under n a l h = keys_below (StartsAt n) (a ∷ l) (λ k. h)

-- bytes taken off the front
pub short_under : (n a : ℕ) (l : List ℕ) (es : List Entry) → Short (suc n) (under (a ∷ l) es) → Short n es
short_under n a l =
    keys_of_under (λ (k : List ℕ). length k ≤ suc n) (λ (k : List ℕ). length k ≤ n) (a ∷ l) (λ k h. omega (arith, length-append l k))

-- where no key is empty
pub longer_from : (n : ℕ) (es : List Entry) → From n es → longer es ≡ es
unfolding longer
longer_from n [] h = refl
longer_from n (e ∷ es) h = go e.key e.value h.0 (longer_from n es h.1)
  where
    go : (k : List ℕ) (v : ℕ) → StartsAt n k → longer es ≡ es → longer (entry k v ∷ es) ≡ entry k v ∷ es
    go [] v p ih = absurd p
    go (b ∷ k) v p ih = ap (λ (z : List Entry). entry (b ∷ k) v ∷ z) ih

pub own_from_lem : (n : ℕ) (es : List Entry) → From n es → own es ≡ None
unfolding own
own_from_lem n [] h = refl
own_from_lem n (e ∷ es) h = go e.key e.value h.0 (own_from_lem n es h.1)
  where
    go : (k : List ℕ) (v : ℕ) → StartsAt n k → own es ≡ None → own (entry k v ∷ es) ≡ None
    go [] v p ih = absurd p
    go (b ∷ k) v p ih = ih

-- where every first byte is above b
first_above_lem : (b : ℕ) (k : List ℕ) → StartsAt (suc b) k → eqb (first_byte k) b ≡ false
first_above_lem b [] h = absurd h
first_above_lem b (c ∷ k) h = ne_eqb c b (λ e. omega arith)

pub starting_none : (b : ℕ) (es : List Entry) → From (suc b) es → starting_with b es ≡ []
unfolding starting_with
starting_none b [] h = refl
starting_none b (e ∷ es) h = rw (first_above_lem b e.key h.0) (starting_none b es h.1)

pub others_all : (b : ℕ) (es : List Entry) → From (suc b) es → not_starting_with b es ≡ es
unfolding not_starting_with
others_all b [] h = refl
others_all b (e ∷ es) h = rw (first_above_lem b e.key h.0) (ap (λ (z : List Entry). e ∷ z) (others_all b es h.1))
