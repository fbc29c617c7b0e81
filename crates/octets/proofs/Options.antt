-- The parts of an `Option`: one value, or none. Assumes nothing.
use Rattle.std.proofs.Common.{◌≡◌, List, [], ◌∷◌, Option, Some, None}

pub some_injective : {A : Type 0} (x y : A) → Some x ≡ Some y → x ≡ y
some_injective x y e = cc

pub none_ne_some : {A : Type 0} (x : A) → None ≡ Some x → ⊥
none_ne_some x e = cc

pub some_ne_none : {A : Type 0} (x : A) → Some x ≡ None → ⊥
some_ne_none x e = cc

-- the first of a list
abbrev pub head_of : {A : Type 0} → List A → Option A
head_of [] = None
head_of (a ∷ rest) = Some a
