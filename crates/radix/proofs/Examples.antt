-- The node counts of 01's index section, computed; and the path of a key. Assumes nothing.
use mathlib.Core.Path.{◌≡◌, refl}
use mathlib.Core.List.{List, [], ◌∷◌, map}
use Prim.Native.Nat.{ℕ}
use Rattle.octets.specs.Compare.{order_of, same}
use Rattle.keys.specs.Entries.{Entry, entry, insert, without}
use Rattle.radix.specs.Shape.{own, longer, common, prefix_of, cut, starting_with, not_starting_with, branch, children_of, shape, nodes, node_count, starts_with, path_of, path_length, entries_below}

abbrev foo : List ℕ
foo = 102 ∷ 111 ∷ 111 ∷ []

abbrev foobar : List ℕ
foobar = 102 ∷ 111 ∷ 111 ∷ 98 ∷ 97 ∷ 114 ∷ []

abbrev footer : List ℕ
footer = 102 ∷ 111 ∷ 111 ∷ 116 ∷ 101 ∷ 114 ∷ []

pub record Count : Type 0 where
  pub entries : List Entry
  pub counted : ℕ

abbrev count : List Entry → ℕ → Count
count es n = record { entries = es; counted = n }

-- whatever the values are
pub table : ℕ → ℕ → List Count
unfolding insert without order_of same
table v w =
    count [] 1
    ∷ count (insert foo v []) 2
    ∷ count (insert foobar w (insert foo v [])) 3
    ∷ count (insert footer w (insert foobar v [])) 6
    ∷ count (without foobar (insert footer w (insert foobar v []))) 2
    ∷ []

pub counts : (v w : ℕ) → map (λ (c : Count). node_count c.entries) (table v w) ≡ map (λ (c : Count). c.counted) (table v w)
unfolding table node_count nodes shape children_of branch cut prefix_of common longer own starting_with not_starting_with insert without order_of same
counts v w = refl

pub paths : (v w : ℕ) → map (path_length (entry foobar v ∷ entry footer w ∷ [])) (foo ∷ foobar ∷ (102 ∷ []) ∷ []) ≡ 2 ∷ 4 ∷ 1 ∷ []
unfolding path_length path_of starts_with shape children_of branch cut prefix_of common longer own starting_with not_starting_with
paths v w = refl

-- the shape has its entries
pub back : (v w : ℕ) → entries_below [] (shape (entry foobar v ∷ entry footer w ∷ [])) ≡ entry foobar v ∷ entry footer w ∷ []
unfolding entries_below shape children_of branch cut prefix_of common longer own starting_with not_starting_with
back v w = refl
