-- What is asked of a key and of what is none, and what the answers say. Assumes nothing.
use Rattle.keys.proofs.Fits.{key_short, fit_head, fit_tail}
use Rattle.octets.specs.Compare.{comes_before}
use Rattle.std.specs.Option.{option_or}
use Rattle.octets.specs.Pick.{pick}
use mathlib.Core.Bool.{Bool, true, false}
use mathlib.Core.Path.{◌≡◌, refl, ap, sym, ◌∙◌}
use mathlib.Core.List.{List, [], ◌∷◌}
use Rattle.std.proofs.Common.{Option, Some, None}
use Prim.Native.Nat.{ℕ, ◌-◌}
use lib.ListN.{length}
use lib.Seq.{take_at}
use Rattle.octets.specs.Bytes.{zeros}
use Rattle.keys.specs.Entries.{Entry, entry, is_key, lookup, first_from, last_up_to, all_fit}
use Rattle.keys.specs.Operation.{Reply, find, first_at_or_above, last_at_or_below, refused, found, value_reply, entry_reply, operate, reply_in}
use Rattle.keys.specs.Answer.{neighbour_of, neighbour_reply, IsShort}
use Rattle.keys.specs.Listing.{IsSound}

-- what is asked of a key, and of what is none
module _ (k : List ℕ) (es : List Entry) where
  pub find_refused : is_key k ≡ false → (operate (find k) es).reply ≡ refused 3
  find_refused p = rw p

  pub find_reply : is_key k ≡ true → (operate (find k) es).reply ≡ value_reply (lookup k es)
  find_reply p = rw p

  pub first_refused : is_key k ≡ false → (operate (first_at_or_above k) es).reply ≡ refused 3
  first_refused p = rw p

  pub first_reply : is_key k ≡ true → (operate (first_at_or_above k) es).reply ≡ entry_reply (first_from k es)
  first_reply p = rw p

  pub last_refused : is_key k ≡ false → (operate (last_at_or_below k) es).reply ≡ refused 3
  last_refused p = rw p

  pub last_reply : is_key k ≡ true → (operate (last_at_or_below k) es).reply ≡ entry_reply (last_up_to k es)
  last_reply p = rw p

-- a neighbour says its reply
pub found_reply : (e : Entry) → neighbour_reply (neighbour_of (found e)) ≡ found e
found_reply e =
    ap (λ (k : List ℕ). found (entry k e.value)) (take_at e.key (zeros (16 - length e.key)) (length e.key) refl)

pub entry_reply_lem : (e : Option Entry) → neighbour_reply (neighbour_of (entry_reply e)) ≡ entry_reply e
entry_reply_lem None = refl
entry_reply_lem (Some e) = found_reply e

-- an index that is known to hold entries
pub sound_some : (o : Option (List Entry)) → IsSound o → (es : List Entry) × (o ≡ Some es)
sound_some None s = absurd s
sound_some (Some es) s = (es, refl)

-- a neighbour says its reply
pub first_told : (k : List ℕ) (e : Option (List Entry)) → neighbour_reply (neighbour_of (reply_in (first_at_or_above k) e)) ≡ reply_in (first_at_or_above k) e
first_told k None = refl
first_told k (Some es) = go (is_key k) refl
  where
    go : (t : Bool) → is_key k ≡ t → neighbour_reply (neighbour_of (reply_in (first_at_or_above k) (Some es))) ≡ reply_in (first_at_or_above k) (Some es)
    go false p = let z = first_refused k es p in ap (λ (r : Reply). neighbour_reply (neighbour_of r)) z ∙ sym z
    go true p = let z = first_reply k es p in ap (λ (r : Reply). neighbour_reply (neighbour_of r)) z ∙ entry_reply_lem (first_from k es) ∙ sym z

pub last_told : (k : List ℕ) (e : Option (List Entry)) → neighbour_reply (neighbour_of (reply_in (last_at_or_below k) e)) ≡ reply_in (last_at_or_below k) e
last_told k None = refl
last_told k (Some es) = go (is_key k) refl
  where
    go : (t : Bool) → is_key k ≡ t → neighbour_reply (neighbour_of (reply_in (last_at_or_below k) (Some es))) ≡ reply_in (last_at_or_below k) (Some es)
    go false p = let z = last_refused k es p in ap (λ (r : Reply). neighbour_reply (neighbour_of r)) z ∙ sym z
    go true p = let z = last_reply k es p in ap (λ (r : Reply). neighbour_reply (neighbour_of r)) z ∙ entry_reply_lem (last_up_to k es) ∙ sym z

-- an entry's key, where there is one
abbrev pub KeyIs : Option Entry → Type 0
KeyIs None = Unit {0}
KeyIs (Some e) = is_key e.key ≡ true

pub first_fits : (k : List ℕ) (es : List Entry) → all_fit es ≡ true → KeyIs (first_from k es)
unfolding first_from
first_fits k [] h = tt
first_fits k (e ∷ es) h = go (comes_before e.key k) (first_fits k es (fit_tail e es h))
  where
    go : (t : Bool) → KeyIs (first_from k es) → KeyIs (pick t (first_from k es) (Some e))
    go true ih = ih
    go false ih = fit_head e es h

pub last_fits : (k : List ℕ) (es : List Entry) → all_fit es ≡ true → KeyIs (last_up_to k es)
unfolding last_up_to
last_fits k [] h = tt
last_fits k (e ∷ es) h = go (comes_before k e.key) (last_up_to k es) (last_fits k es (fit_tail e es h))
  where
    go : (t : Bool) (o : Option Entry) → KeyIs o → KeyIs (pick t None (option_or o (Some e)))
    go true o ih = tt
    go false None ih = fit_head e es h
    go false (Some f) ih = ih

pub entry_short : (o : Option Entry) → KeyIs o → IsShort (neighbour_of (entry_reply o))
entry_short None h = tt
entry_short (Some e) h = key_short e.key h
