-- The rules and the walks, computed on {foobar, footer} and on shapes that break one rule each. Assumes nothing.
use mathlib.Core.Path.{◌≡◌, refl}
use mathlib.Core.Bool.{true, false}
use mathlib.Core.List.{List, [], ◌∷◌, map}
use Rattle.std.proofs.Common.{Some, None}
use Prim.Native.Nat.{ℕ}
use Rattle.octets.specs.Compare.{order_of}
use Rattle.keys.specs.Entries.{entry}
use Rattle.radix.specs.Shape.{Shape, nil, node, own, longer, common, prefix_of, cut, starting_with, not_starting_with, branch, children_of, shape, starts_with}
use Rattle.radix.specs.Canon.{rules, canonical}
use Rattle.radix.specs.Walk.{find_in, least_in, seek_first, first_in, greatest_in, seek_last, last_in}

abbrev foobar : List ℕ
foobar = 102 ∷ 111 ∷ 111 ∷ 98 ∷ 97 ∷ 114 ∷ []

abbrev footer : List ℕ
footer = 102 ∷ 111 ∷ 111 ∷ 116 ∷ 101 ∷ 114 ∷ []

abbrev two : ℕ → ℕ → Shape
two v w = shape (entry foobar v ∷ entry footer w ∷ [])

-- foo, fooc, fox
abbrev asked : List (List ℕ)
asked = (102 ∷ 111 ∷ 111 ∷ []) ∷ (102 ∷ 111 ∷ 111 ∷ 99 ∷ []) ∷ (102 ∷ 111 ∷ 120 ∷ []) ∷ []

pub kept : (v w : ℕ) → canonical (two v w) ≡ true
unfolding canonical rules shape children_of branch cut prefix_of common longer own starting_with not_starting_with
kept v w = refl

-- a run that ends where no keys part; two siblings that do not rise; a sibling of two bytes; one with no key; an empty label
abbrev leaf : List ℕ → ℕ → Shape → Shape
leaf label v later = node label (Some v) nil later

pub broken : (v w : ℕ) → map canonical
    (node (1 ∷ []) None (leaf (2 ∷ []) v nil) nil
    ∷ leaf (2 ∷ []) v (leaf (2 ∷ []) w nil)
    ∷ leaf (1 ∷ []) v (leaf (2 ∷ 3 ∷ []) w nil)
    ∷ leaf (1 ∷ []) v (node (2 ∷ []) None nil nil)
    ∷ leaf [] v nil
    ∷ [])
    ≡ false ∷ false ∷ false ∷ false ∷ false ∷ []
unfolding canonical rules
broken v w = refl

pub found : (v w : ℕ) → map (find_in (two v w)) (footer ∷ asked) ≡ Some w ∷ None ∷ None ∷ None ∷ []
unfolding find_in starts_with shape children_of branch cut prefix_of common longer own starting_with not_starting_with
found v w = refl

pub firsts : (v w : ℕ) → map (first_in [] (two v w)) (footer ∷ asked) ≡ Some (entry footer w) ∷ Some (entry foobar v) ∷ Some (entry footer w) ∷ None ∷ []
unfolding first_in seek_first least_in order_of starts_with shape children_of branch cut prefix_of common longer own starting_with not_starting_with
firsts v w = refl

pub lasts : (v w : ℕ) → map (last_in [] (two v w)) (footer ∷ asked) ≡ Some (entry footer w) ∷ None ∷ Some (entry foobar v) ∷ Some (entry footer w) ∷ []
unfolding last_in seek_last greatest_in order_of starts_with shape children_of branch cut prefix_of common longer own starting_with not_starting_with
lasts v w = refl
