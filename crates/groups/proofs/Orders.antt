-- By the three orders. Assumes nothing.
use mathlib.Core.Path.{◌≡◌, refl}
use Rattle.std.specs.declared.cmp.Ordering.{Ordering}
use Rattle.std.specs.declared.cmp.Ordering.TheVariants.{Less, Equal, Greater}

three : {C : Type 0} (o p : Ordering) → o ≡ p → (o ≡ Less → C) → (o ≡ Equal → C) → (o ≡ Greater → C) → C
three o Less e less equal greater = less e
three o Equal e less equal greater = equal e
three o Greater e less equal greater = greater e

pub by_three : {C : Type 0} (o : Ordering) → (o ≡ Less → C) → (o ≡ Equal → C) → (o ≡ Greater → C) → C
by_three o = three o o refl
