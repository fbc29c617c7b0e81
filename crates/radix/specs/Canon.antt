-- The local rules of a shape (01, The index): what a walk over a record can test at each node. "Let p be the longest common prefix of
-- the non-empty remainders. If p has 2 bytes or more, the node is a run holding p with one child; if there are none, a leaf; otherwise
-- one child per first byte, rising."
--
-- The shapes that keep these rules are the shapes of the sets of keys: proofs/Back.antt and proofs/Unique.antt. Assumes nothing.
use Rattle.std.specs.Prelude.{Bool, true, false, not, List, ℕ, ◌+◌, leb, eqb, length, is_none, Option}
use Rattle.octets.specs.Pick.{pick, both}
use Rattle.radix.specs.Shape.{Shape, nil, node, first_byte}

abbrev pub is_nil : Shape → Bool
is_nil nil = true
is_nil (node label v below later) = false

abbrev pub are_several : Shape → Bool
are_several nil = false
are_several (node label v below later) = not (is_nil later)

-- p ends at a key node, or where the keys part
abbrev pub is_end : Option ℕ → Shape → Bool
is_end v below = pick (is_none v) (are_several below) true

-- a first byte stands for a key at least
abbrev pub is_held : Option ℕ → Shape → Bool
is_held v below = pick (is_none v) (not (is_nil below)) true

-- an only child: its label is p
abbrev pub is_only : List ℕ → Option ℕ → Shape → Bool
is_only label v below = both (leb 1 (length label)) (is_end v below)

-- one of several children: its label is a byte, above those before it
abbrev pub is_one_of : ℕ → List ℕ → Option ℕ → Shape → Bool
is_one_of least label v below = both (both (eqb (length label) 1) (leb least (first_byte label))) (is_held v below)

-- the rules at a child and its later siblings: `first` says that none stands before it, and its byte is `least` or more
unfoldable pub rules : Bool → ℕ → Shape → Bool
rules first least nil = true
rules first least (node label v below later) =
    both (pick (both first (is_nil later)) (is_only label v below) (is_one_of least label v below))
    (both (rules true 0 below) (rules false (first_byte label + 1) later))

unfoldable pub canonical : Shape → Bool
canonical s = rules true 0 s
