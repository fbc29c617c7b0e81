-- Each return of the neighbours: on the tree of a record that holds entries the walks answer the map's neighbours. Assumes nothing.
use mathlib.Core.Bool.{true, false}
use mathlib.Core.Path.{◌≡◌, refl, sym, ap, ◌∙◌}
use mathlib.Core.List.{List, []}
use Rattle.std.proofs.Common.{Option, Some, None, Ok, option_map}
use Prim.Native.Nat.{ℕ, ◌<◌}
use lib.ListN.{get_or}
use Rattle.keys.specs.Entries.{Entry, is_key, first_from, last_up_to}
use Rattle.keys.specs.Operation.{first_at_or_above, last_at_or_below, entry_reply, refused, reply_in}
use Rattle.radix.specs.declared.Index.{Index}
use Rattle.radix.specs.Shape.{Shape}
use Rattle.radix.specs.Walk.{first_in, last_in}
use Rattle.radix.specs.Record.{nodes_of, tree_at, entries_of}
use Rattle.radix.proofs.Laws.{holds, root_within}
use Rattle.radix_walk.specs.Neighbours.{cut_key}
use Rattle.radix_walk.proofs.Laws.{near_first, near_last}
use Rattle.keys.specs.Answer.{near_of, neighbour_of}
use Rattle.keys.specs.declared.Neighbour.{Neighbour}
use Rattle.keys.specs.Listing.{IsSound}
use Rattle.keys.proofs.Laws.{sound_some, first_refused, first_reply, last_refused, last_reply}

-- what a walk found
walked : (e : Option Entry) → Ok (option_map near_of e) ≡ neighbour_of (entry_reply e)
walked None = refl
walked (Some e) = refl

-- the root of a record that holds entries
pub sound_root : (x : Index) → IsSound (entries_of x) → x.root < 256
sound_root x s = let (es, e) = sound_some (entries_of x) s in root_within x (holds x es e).placed

-- the walk's tree is the record's
tree_at_lem : (x : Index) (t : Shape) (q first : ℕ) → tree_at 256 (nodes_of x) (get_or x.child x.root 0) ≡ t → q ≡ x.root → first ≡ get_or x.child q 0 → tree_at 256 (nodes_of x) first ≡ t
tree_at_lem x t q first h eq ef = ap (tree_at 256 (nodes_of x)) (ef ∙ ap (λ (i : ℕ). get_or x.child i 0) eq) ∙ h

module _ (x : Index) (k : List ℕ) (s : IsSound (entries_of x)) where
  pub first_3 : is_key k ≡ false → refused 3 ≡ reply_in (first_at_or_above k) (entries_of x)
  first_3 p = let (es, h) = sound_some (entries_of x) s in sym (ap (reply_in (first_at_or_above k)) h ∙ first_refused k es p)

  pub last_3 : is_key k ≡ false → refused 3 ≡ reply_in (last_at_or_below k) (entries_of x)
  last_3 p = let (es, h) = sound_some (entries_of x) s in sym (ap (reply_in (last_at_or_below k)) h ∙ last_refused k es p)

  module _ (p : is_key k ≡ true) (q first : ℕ) (eq : q ≡ x.root) (ef : first ≡ get_or x.child q 0) (n : Option Neighbour) where
    pub first_is : n ≡ option_map near_of (cut_key (first_in [] (tree_at 256 (nodes_of x) first) k)) → Ok n ≡ neighbour_of (reply_in (first_at_or_above k) (entries_of x))
    first_is en =
        let (es, e) = sound_some (entries_of x) s in
        let h = holds x es e in
        let w : n ≡ option_map near_of (first_from k es) = en ∙ ap (λ (t : Shape). option_map near_of (cut_key (first_in [] t k))) (tree_at_lem x _ q first h.tree eq ef) ∙ ap (option_map near_of) (near_first es h.map k) in
        ap Ok w ∙ walked (first_from k es) ∙ ap neighbour_of (sym (ap (reply_in (first_at_or_above k)) e ∙ first_reply k es p))

    pub last_is : n ≡ option_map near_of (cut_key (last_in [] (tree_at 256 (nodes_of x) first) k)) → Ok n ≡ neighbour_of (reply_in (last_at_or_below k) (entries_of x))
    last_is en =
        let (es, e) = sound_some (entries_of x) s in
        let h = holds x es e in
        let w : n ≡ option_map near_of (last_up_to k es) = en ∙ ap (λ (t : Shape). option_map near_of (cut_key (last_in [] t k))) (tree_at_lem x _ q first h.tree eq ef) ∙ ap (option_map near_of) (near_last es h.map k) in
        ap Ok w ∙ walked (last_up_to k es) ∙ ap neighbour_of (sym (ap (reply_in (last_at_or_below k)) e ∙ last_reply k es p))
