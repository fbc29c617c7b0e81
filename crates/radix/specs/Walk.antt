-- Find and the two neighbours of a key by a walk down a shape, each as a loop can take it: a step goes to a node's children or to its
-- next sibling, with the bytes of the key that are left. On the shape of a map these are lookup, first_from and last_up_to:
-- proofs/Lookups.antt, FirstAbove.antt and LastBelow.antt. Assumes nothing.
use Rattle.std.specs.Prelude.{List, [], ◌∷◌, ◌++◌, ℕ, length, drop, Option, Some, None}
use Rattle.octets.specs.Pick.{pick}
use Rattle.std.specs.Option.{option_or}
use Rattle.keys.specs.Entries.{Entry, entry}
use Rattle.octets.specs.Compare.{comes_before}
use Rattle.radix.specs.Shape.{Shape, nil, node, starts_with}
use Rattle.radix.specs.Canon.{is_nil}

-- past a label: the node's value where the key ends there, else what its children say
abbrev pub reached : List ℕ → Option ℕ → Option ℕ → Option ℕ
reached [] v deeper = v
reached (b ∷ k) v deeper = deeper

unfoldable pub find_in : Shape → List ℕ → Option ℕ
find_in nil k = None
find_in (node label v below later) k =
    pick (starts_with label k) (reached (drop (length label) k) v (find_in below (drop (length label) k))) (find_in later k)

abbrev pub own_of : List ℕ → Option ℕ → Option Entry
own_of k None = None
own_of k (Some v) = Some (entry k v)

-- the first entry below a node that the bytes `before` lead to: by first children down to a key node
unfoldable pub least_in : List ℕ → Shape → Option Entry
least_in before nil = None
least_in before (node label None below later) = least_in (before ++ label) below
least_in before (node label (Some v) below later) = Some (entry (before ++ label) v)

-- that of the later siblings, if there are any
abbrev pub least_or : List ℕ → Shape → Option Entry → Option Entry
least_or before nil above = above
least_or before (node label v below later) above = least_in before (node label v below later)

-- the first key at or above: a label that does not come before the key has it at its node or below; one that the key starts with has
-- it among its children, or else in what stands next above; any other leads to its later siblings
unfoldable pub seek_first : List ℕ → Shape → List ℕ → Option Entry → Option Entry
seek_first before nil k above = above
seek_first before (node label v below later) k above =
    pick (comes_before label k)
    (pick (starts_with label k) (seek_first (before ++ label) below (drop (length label) k) (least_or before later above)) (seek_first before later k above))
    (least_in before (node label v below later))

unfoldable pub first_in : List ℕ → Shape → List ℕ → Option Entry
first_in before s k = seek_first before s k None

-- the last entry: by last children down to a node that has none
unfoldable pub greatest_in : List ℕ → Shape → Option Entry
greatest_in before nil = None
greatest_in before (node label v below later) =
    pick (is_nil later) (pick (is_nil below) (own_of (before ++ label) v) (greatest_in (before ++ label) below)) (greatest_in before later)

-- the last key at or below: a label that the key comes before ends the walk; one that the key starts with has it among its children, or
-- else at its node, or else in what stands last before; any other is passed, and its last entry is the best so far
unfoldable pub seek_last : List ℕ → Shape → List ℕ → Option Entry → Option Entry
seek_last before nil k best = best
seek_last before (node label v below later) k best =
    pick (comes_before k label) best
    (pick (starts_with label k) (seek_last (before ++ label) below (drop (length label) k) (option_or (own_of (before ++ label) v) best))
    (seek_last before later k (greatest_in before (node label v below nil))))

unfoldable pub last_in : List ℕ → Shape → List ℕ → Option Entry
last_in before s k = seek_last before s k None
