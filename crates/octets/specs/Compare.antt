-- Comparison of lists of bytes. Assumes nothing.
use Rattle.std.specs.Prelude.{Bool, true, false, List, [], ◌∷◌, ℕ, eqb, ltb}
use Rattle.octets.specs.Pick.{pick, both}
use Rattle.std.specs.declared.cmp.Ordering.{Ordering}
use Rattle.std.specs.declared.cmp.Ordering.TheVariants.{Less, Equal, Greater}

unfoldable pub all_zero : List ℕ → Bool
all_zero [] = true
all_zero (x ∷ xs) = both (eqb x 0) (all_zero xs)

unfoldable pub same : List ℕ → List ℕ → Bool
same [] [] = true
same [] (y ∷ ys) = false
same (x ∷ xs) [] = false
same (x ∷ xs) (y ∷ ys) = both (eqb x y) (same xs ys)

-- bytewise order, a prefix first (01, The index)
unfoldable pub order_of : List ℕ → List ℕ → Ordering
order_of [] [] = Equal
order_of [] (y ∷ ys) = Less
order_of (x ∷ xs) [] = Greater
order_of (x ∷ xs) (y ∷ ys) = pick (ltb x y) Less (pick (ltb y x) Greater (order_of xs ys))

-- is the order Less, Equal, one of these two
abbrev pub is_less : Ordering → Bool
is_less Less = true
is_less Equal = false
is_less Greater = false

-- the first comes before the second
abbrev pub comes_before : List ℕ → List ℕ → Bool
comes_before a b = is_less (order_of a b)

abbrev pub is_equal : Ordering → Bool
is_equal Less = false
is_equal Equal = true
is_equal Greater = false

abbrev pub is_at_most : Ordering → Bool
is_at_most Less = true
is_at_most Equal = true
is_at_most Greater = false
