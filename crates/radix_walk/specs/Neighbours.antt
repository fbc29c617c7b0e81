-- The neighbours of a key as the code answers them, and where its walks stop. Assumes nothing.
use Rattle.std.specs.Prelude.{◌≡◌, List, [], ℕ, ◌≤◌, length, take, Option, Some, None}
use Rattle.keys.specs.Entries.{Entry, entry}
use Rattle.radix.specs.Shape.{Shape, nil, node}
use Rattle.radix.specs.Record.{Nodes, tree_at}
use Rattle.radix.specs.Walk.{least_in, greatest_in, first_in, last_in}
use Rattle.radix_walk.specs.declared.near.Stop.{Stop}

-- a path is kept for 16 bytes; no key of a map has more
abbrev pub cut_key : Option Entry → Option Entry
cut_key None = None
cut_key (Some e) = Some (entry (take 16 e.key) e.value)

-- a node without its later siblings
abbrev pub alone : Shape → Shape
alone nil = nil
alone (node label v below later) = node label v below nil

abbrev pub stop_at : ℕ → ℕ → ℕ → Stop
stop_at at lead left = record { at = at; lead = lead; left = left }

-- the first and the last entry from where the walk of k stopped
unfoldable pub least_from : Nodes → List ℕ → Stop → Option Entry
least_from x k s = least_in (take s.lead k) (tree_at s.left x s.at)

unfoldable pub greatest_from : Nodes → List ℕ → Stop → Option Entry
greatest_from x k s = greatest_in (take s.lead k) (alone (tree_at s.left x s.at))

-- the walk of k from a link on stopped at s
pub record StopsAbove (x : Nodes) (first : ℕ) (k : List ℕ) (s : Stop) : Type 0 where
  pub lead : s.lead ≤ length k
  pub least : least_from x k s ≡ first_in [] (tree_at 256 x first) k

pub record StopsBelow (x : Nodes) (first : ℕ) (k : List ℕ) (s : Stop) : Type 0 where
  pub lead : s.lead ≤ length k
  pub greatest : greatest_from x k s ≡ last_in [] (tree_at 256 x first) k

-- the last of the siblings that a link leads to
pub record LastOf (x : Nodes) (left link : ℕ) (s : Stop) : Type 0 where
  pub within : s.left ≤ left
  pub last : (before : List ℕ) → greatest_in before (tree_at left x link) ≡ greatest_in before (alone (tree_at s.left x s.at))
