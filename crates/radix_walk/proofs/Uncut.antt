-- The neighbours in the shape of a map are the map's: no key of a map is cut. Assumes nothing.
use mathlib.Core.Path.{◌≡◌, refl, ap, ◌∙◌}
use mathlib.Core.Bool.{Bool, true, false}
use mathlib.Core.List.{List, [], ◌∷◌}
use Rattle.std.proofs.Common.{Option, Some, None}
use Prim.Native.Nat.{ℕ}
use lib.Seq.{take_all}
use Rattle.octets.specs.Pick.{pick}
use Rattle.std.specs.Option.{option_or}
use Rattle.keys.specs.Entries.{Entry, entry, all_fit, is_map, first_from, last_up_to}
use Rattle.octets.specs.Compare.{comes_before}
use Rattle.radix.specs.Shape.{shape}
use Rattle.radix.specs.Walk.{first_in, last_in}
use Rattle.radix_walk.specs.Neighbours.{cut_key}
use Rattle.keys.proofs.Laws.{map_fit, key_short, fit_head, fit_tail}
use Rattle.radix_walk.proofs.FirstAbove.{shape_first}
use Rattle.radix_walk.proofs.LastBelow.{shape_last}

uncut : (e : Entry) (es : List Entry) → all_fit (e ∷ es) ≡ true → cut_key (Some e) ≡ Some e
uncut e es h = ap (λ (k : List ℕ). Some (entry k e.value)) (take_all 16 e.key (key_short e.key (fit_head e es h)))

cut_first : (k : List ℕ) (es : List Entry) → all_fit es ≡ true → cut_key (first_from k es) ≡ first_from k es
unfolding first_from
cut_first k [] h = refl
cut_first k (e ∷ es) h = go (comes_before e.key k) (cut_first k es (fit_tail e es h))
  where
    go : (t : Bool) → cut_key (first_from k es) ≡ first_from k es → cut_key (pick t (first_from k es) (Some e)) ≡ pick t (first_from k es) (Some e)
    go true ih = ih
    go false ih = uncut e es h

cut_last : (k : List ℕ) (es : List Entry) → all_fit es ≡ true → cut_key (last_up_to k es) ≡ last_up_to k es
unfolding last_up_to
cut_last k [] h = refl
cut_last k (e ∷ es) h = go (comes_before k e.key) (last_up_to k es) (cut_last k es (fit_tail e es h))
  where
    go : (t : Bool) (o : Option Entry) → cut_key o ≡ o → cut_key (pick t None (option_or o (Some e))) ≡ pick t None (option_or o (Some e))
    go true o ih = refl
    go false None ih = uncut e es h
    go false (Some f) ih = ih

module _ (es : List Entry) (m : is_map es ≡ true) (k : List ℕ) where
  pub near_first : cut_key (first_in [] (shape es) k) ≡ first_from k es
  near_first = ap cut_key (shape_first es m k) ∙ cut_first k es (map_fit es m)

  pub near_last : cut_key (last_in [] (shape es) k) ≡ last_up_to k es
  near_last = ap cut_key (shape_last es m k) ∙ cut_last k es (map_fit es m)
