-- What is_map says of a list of entries: how many they are, that they rise, and how long their keys are. Assumes nothing.
use mathlib.Core.Path.{◌≡◌, sym}
use mathlib.Core.Bool.{true, true≢false}
use mathlib.Core.List.{List, [], ◌∷◌}
use Prim.Native.Nat.{ℕ}
use native.Mathlib.Omega.{arith}
use Rattle.keys.specs.Entries.{Entry, is_key, all_fit}
use Rattle.radix.proofs.Keys.{StartsAt, From}
use Rattle.keys.proofs.Laws.{Short, fit_head, fit_tail, key_short}

pub key_some : (k : List ℕ) → is_key k ≡ true → StartsAt 0 k
key_some [] h = absurd (true≢false (sym h))
key_some (b ∷ k) h = omega arith

pub fit_from : (es : List Entry) → all_fit es ≡ true → From 0 es
fit_from [] h = tt
fit_from (e ∷ es) h = (key_some e.key (fit_head e es h), fit_from es (fit_tail e es h))

pub fit_short : (es : List Entry) → all_fit es ≡ true → Short 16 es
fit_short [] h = tt
fit_short (e ∷ es) h = (key_short e.key (fit_head e es h), fit_short es (fit_tail e es h))
