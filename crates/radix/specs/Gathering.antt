-- How the entries of a tree are gathered into the rows of a table. Assumes nothing.
use Rattle.std.specs.Prelude.{List, [], ◌∷◌, ◌++◌, ℕ, ◌+◌, ◌^◌, leb, ltb, length, Option, Some, None}
use Rattle.octets.specs.Pick.{both}
use Rattle.octets.specs.Maybe.{need, ◌>>◌, ◌>>=◌}
use Rattle.keys.specs.Entries.{Entry, entry, most_keys}
use Rattle.radix.specs.Shape.{Shape, nil, node}

-- one entry more, where there is room
abbrev pub with_own : List ℕ → Option ℕ → List Entry → Option (List Entry)
with_own k None es = Some es
with_own k (Some v) es = need (both (ltb (length es) most_keys) (ltb v (2 ^ 32))) >> Some (es ++ (entry k v ∷ []))

-- the entries es, and after them those below a node that the bytes `before` lead to
unfoldable pub gathered : List ℕ → Shape → List Entry → Option (List Entry)
gathered before nil es = Some es
gathered before (node label v below later) es =
    need (leb (length before + length label) 16)
    >> (with_own (before ++ label) v es >>= (λ (fs : List Entry). gathered (before ++ label) below fs >>= gathered before later))
