-- The shape of a set of keys (01, The index): "A node is a key node if the empty remainder is in its set. Let p be the longest
-- common prefix of the non-empty remainders. If p has 2 bytes or more, the node is a run holding p with one child; if there are
-- none, a leaf; otherwise one child per first byte, rising."
--
-- The bytes that lead to a child stand with the child, as its label. A run's child has the run's p for a label, and the children
-- of any other node have one byte each. {foo, foobar} and {foobar, footer}, key nodes marked *:
--
--     root ─foo─ * ─bar─ *              root ─foo─ o ─b─ o ─ar─ *
--                                                  └─t─ o ─er─ *
--
-- Assumes nothing.
use Rattle.std.specs.Prelude.{Bool, true, false, List, [], ◌∷◌, ◌++◌, map, ℕ, zero, suc, ◌+◌, leb, eqb, length, drop, Option, Some, None}
use Rattle.octets.specs.Pick.{pick, both}
use Rattle.keys.specs.Entries.{Entry, entry}

-- the children of a node, in order
pub data Shape : Type 0 where
  nil : Shape
  node : List ℕ → Option ℕ → Shape → Shape → Shape  -- label, value of a key node, its children, later siblings

-- entries whose keys are the remainders: the value of the empty one
unfoldable pub own : List Entry → Option ℕ
own [] = None
own (e ∷ es) = elim e.key [ [] ↦ Some e.value | b ∷ k ↦ own es ]

-- the non-empty remainders
unfoldable pub longer : List Entry → List Entry
longer [] = []
longer (e ∷ es) = elim e.key [ [] ↦ longer es | b ∷ k ↦ e ∷ longer es ]

unfoldable pub common : List ℕ → List ℕ → List ℕ
common [] ys = []
common (x ∷ xs) [] = []
common (x ∷ xs) (y ∷ ys) = pick (eqb x y) (x ∷ common xs ys) []

-- the longest common prefix
unfoldable pub prefix_of : List Entry → List ℕ
prefix_of [] = []
prefix_of (e ∷ []) = e.key
prefix_of (e ∷ (f ∷ es)) = common e.key (prefix_of (f ∷ es))

-- the remainders after n more bytes
unfoldable pub cut : ℕ → List Entry → List Entry
cut n es = map (λ (e : Entry). entry (drop n e.key) e.value) es

abbrev pub first_byte : List ℕ → ℕ
first_byte [] = 0
first_byte (b ∷ k) = b

unfoldable pub starting_with : ℕ → List Entry → List Entry
starting_with b [] = []
starting_with b (e ∷ es) = pick (eqb (first_byte e.key) b) (e ∷ starting_with b es) (starting_with b es)

unfoldable pub not_starting_with : ℕ → List Entry → List Entry
not_starting_with b [] = []
not_starting_with b (e ∷ es) = pick (eqb (first_byte e.key) b) (not_starting_with b es) (e ∷ not_starting_with b es)

-- the child that a label leads to, with its later siblings; `children` makes the children of a node from its remainders
abbrev pub child : (List Entry → Shape) → List ℕ → List Entry → Shape → Shape
child children label es later = node label (own (cut (length label) es)) (children (cut (length label) es)) later

-- one child per first byte; there are at most as many first bytes as entries
unfoldable pub branch : (List Entry → Shape) → ℕ → List Entry → Shape
branch children zero es = nil
branch children (suc n) [] = nil
branch children (suc n) (e ∷ es) =
    child children (first_byte e.key ∷ []) (starting_with (first_byte e.key) (e ∷ es))
    (branch children n (not_starting_with (first_byte e.key) (e ∷ es)))

-- the children of the node whose remainders these are, none of them over `most` bytes
unfoldable pub children_of : ℕ → List Entry → Shape
children_of zero es = nil
children_of (suc most) es =
    elim (leb 2 (length (prefix_of (longer es)))) [
      | true ↦ child (children_of most) (prefix_of (longer es)) (longer es) nil
      | false ↦ branch (children_of most) (length es) (longer es)
    ]

-- keys are at most 16 bytes long
unfoldable pub shape : List Entry → Shape
shape es = children_of 16 es

unfoldable pub nodes : Shape → ℕ
nodes nil = 0
nodes (node label v below later) = 1 + nodes below + nodes later

-- with the root
unfoldable pub node_count : List Entry → ℕ
node_count es = 1 + nodes (shape es)

-- the entry of a key node
abbrev pub own_entry : List ℕ → Option ℕ → List Entry
own_entry k None = []
own_entry k (Some v) = entry k v ∷ []

-- the entries below a node that the bytes `before` lead to, in order
unfoldable pub entries_below : List ℕ → Shape → List Entry
entries_below before nil = []
entries_below before (node label v below later) =
    own_entry (before ++ label) v ++ (entries_below (before ++ label) below ++ entries_below before later)

unfoldable pub starts_with : List ℕ → List ℕ → Bool
starts_with [] k = true
starts_with (x ∷ l) [] = false
starts_with (x ∷ l) (y ∷ k) = both (eqb x y) (starts_with l k)

-- the labels on the path that a key follows
unfoldable pub path_of : Shape → List ℕ → List (List ℕ)
path_of nil k = []
path_of (node label v below later) k =
    pick (starts_with label k) (label ∷ path_of below (drop (length label) k)) (path_of later k)

-- how many nodes that path has, root included
unfoldable pub path_length : List Entry → List ℕ → ℕ
path_length es k = 1 + length (path_of (shape es) k)
