-- The shape of rising entries made in one pass over them, as the code lays it: it is `shape` (proofs/Sprouts). Assumes nothing.
use Rattle.std.specs.Prelude.{Bool, true, false, List, [], ◌∷◌, ℕ, zero, suc, eqb, length, take, drop, Option, Some, None}
use Rattle.octets.specs.Pick.{pick, both}
use Rattle.keys.specs.Entries.{Entry}
use Rattle.radix.specs.Shape.{Shape, nil, node, prefix_of, cut, first_byte}

-- how many of them start like the first
unfoldable pub alike : ℕ → List Entry → ℕ
alike b [] = 0
alike b (e ∷ es) = pick (eqb (first_byte e.key) b) (suc (alike b es)) 0

abbrev pub group : List Entry → ℕ
group [] = 0
group (e ∷ es) = suc (alike (first_byte e.key) es)

-- how long their label is: a run for an only child, else one byte
abbrev pub stretch : Bool → List Entry → ℕ
stretch first es = pick (both first (eqb (group es) (length es))) (length (prefix_of es)) 1

-- the key that ends here comes first, if there is one
abbrev pub own_first : List Entry → Option ℕ
own_first [] = None
own_first (e ∷ es) = elim e.key [ [] ↦ Some e.value | b ∷ k ↦ None ]

abbrev pub after_own : List Entry → List Entry
after_own [] = []
after_own (e ∷ es) = elim e.key [ [] ↦ es | b ∷ k ↦ e ∷ es ]

abbrev pub first_key : List Entry → List ℕ
first_key [] = []
first_key (e ∷ es) = e.key

abbrev pub sprout_node : (Bool → List Entry → Shape) → ℕ → List Entry → List Entry → Shape
sprout_node go n es later =
    node (take n (first_key es)) (own_first (cut n es)) (go true (after_own (cut n es))) (go false later)

abbrev pub sprout_all : (Bool → List Entry → Shape) → Bool → List Entry → Shape
sprout_all go first [] = nil
sprout_all go first (e ∷ es) = sprout_node go (stretch first (e ∷ es)) (take (group (e ∷ es)) (e ∷ es)) (drop (group (e ∷ es)) (e ∷ es))

-- siblings and what lies below them; `first` says that none stands before them
unfoldable pub sprout : ℕ → Bool → List Entry → Shape
sprout zero first es = nil
sprout (suc most) first es = sprout_all (sprout most) first es
