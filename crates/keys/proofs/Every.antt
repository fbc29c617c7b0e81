-- Facts of every key of a list of entries. Assumes nothing.
use mathlib.Core.List.{List, [], ◌∷◌, ◌++◌}
use Prim.Native.Nat.{ℕ, ◌≤◌}
use lib.ListN.{length}
use Rattle.keys.specs.Entries.{Entry}

abbrev pub Keys : (List ℕ → Type 0) → List Entry → Type 0
Keys P [] = Unit {0}
Keys P (e ∷ es) = P e.key × Keys P es

abbrev pub Short : ℕ → List Entry → Type 0
Short n es = Keys (λ (k : List ℕ). length k ≤ n) es

module _ (P : List ℕ → Type 0) where
  pub keys_append : (xs ys : List Entry) → Keys P xs → Keys P ys → Keys P (xs ++ ys)
  keys_append [] ys h k = k
  keys_append (x ∷ xs) ys h k = (h.0, keys_append xs ys h.1 k)

  pub keys_left : (xs ys : List Entry) → Keys P (xs ++ ys) → Keys P xs
  keys_left [] ys h = tt
  keys_left (x ∷ xs) ys h = (h.0, keys_left xs ys h.1)

  pub keys_right : (xs ys : List Entry) → Keys P (xs ++ ys) → Keys P ys
  keys_right [] ys h = h
  keys_right (x ∷ xs) ys h = keys_right xs ys h.1

module _ (P Q : List ℕ → Type 0) where
  pub keys_map : ((k : List ℕ) → P k → Q k) → (es : List Entry) → Keys P es → Keys Q es
  keys_map f [] h = tt
  keys_map f (e ∷ es) h = (f e.key h.0, keys_map f es h.1)
