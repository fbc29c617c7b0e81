-- What the commands ask of a map: its members, its first and its last, and every key of it. Assumes nothing.
use mathlib.Core.Bool.{Bool, true, false}
use mathlib.Core.Path.{◌≡◌, refl, sym, ap, ◌∙◌, subst}
use mathlib.Core.List.{List, [], ◌∷◌, ◌++◌}
use Rattle.std.proofs.Common.{Some}
use Rattle.octets.proofs.Options.{some_injective, none_ne_some}
use Prim.Native.Nat.{ℕ}
use Rattle.octets.specs.Pick.{pick}
use Rattle.octets.specs.Compare.{same, comes_before}
use Rattle.octets.proofs.Laws.{same_true, same_refl, before_differs}
use Rattle.keys.specs.Entries.{Entry, entry, is_key, rising, lookup, has, insert, without}
use Rattle.keys.specs.Operation.{put, remove, put_to, remove_from, operate}
use Rattle.keys.proofs.Every.{Keys}
use Rattle.keys.proofs.Sorted.{rising_tail}
use Rattle.keys.proofs.Sides.{before_once, same_swap}
use Rattle.keys.proofs.Maps.{insert_after, lookup_same, lookup_other, above_keys, without_same}
use Rattle.keys.proofs.Positions.{without_new}
use Rattle.keys.proofs.Placing.{no_room}

-- what holds of every key and of a new one holds after a put, and after a remove
module _ (P : List ℕ → Type 0) where
  pub keys_insert : (k : List ℕ) (v : ℕ) (es : List Entry) → P k → Keys P es → Keys P (insert k v es)
  unfolding insert
  keys_insert k v [] p h = (p, tt)
  keys_insert k v (e ∷ es) p h = go (same k e.key) (comes_before k e.key) (keys_insert k v es p h.1)
    where
      go : (s b : Bool) → Keys P (insert k v es) → Keys P (pick s (entry k v ∷ es) (pick b (entry k v ∷ (e ∷ es)) (e ∷ insert k v es)))
      go true b ih = (p, h.1)
      go false true ih = (p, h)
      go false false ih = (h.0, ih)

  pub keys_without : (k : List ℕ) (es : List Entry) → Keys P es → Keys P (without k es)
  unfolding without
  keys_without k [] h = tt
  keys_without k (e ∷ es) h = go (same k e.key) (keys_without k es h.1)
    where
      go : (s : Bool) → Keys P (without k es) → Keys P (pick s es (e ∷ without k es))
      go true ih = h.1
      go false ih = (h.0, ih)

-- a key above all goes to the end
pub insert_last : (k : List ℕ) (v : ℕ) (es : List Entry) → Keys (λ (x : List ℕ). comes_before x k ≡ true) es → insert k v es ≡ es ++ (entry k v ∷ [])
unfolding insert
insert_last k v [] h = refl
insert_last k v (e ∷ es) h =
    insert_after k v e es (same_swap e.key k (before_differs e.key k h.0)) (before_once e.key k h.0)
    ∙ ap (λ (z : List Entry). e ∷ z) (insert_last k v es h.1)

-- without the first key: the others
pub without_first : (e : Entry) (es : List Entry) → without e.key (e ∷ es) ≡ es
without_first e es = without_same e.key e es (same_refl e.key)

-- an entry is among others
pub data Member (e : Entry) : List Entry → Type 0 where
  here : {es : List Entry} → Member e (e ∷ es)
  there : {f : Entry} {es : List Entry} → Member e es → Member e (f ∷ es)

-- what is found is a member, and of rising entries every member is found
pub found_member : (k : List ℕ) (v : ℕ) (es : List Entry) → lookup k es ≡ Some v → Member (entry k v) es
unfolding lookup
found_member k v [] h = absurd (none_ne_some v h)
found_member k v (e ∷ es) h = go (same k e.key) refl (found_member k v es)
  where
    go : (t : Bool) → same k e.key ≡ t → (lookup k es ≡ Some v → Member (entry k v) es) → Member (entry k v) (e ∷ es)
    go true n ih =
        let q : e ≡ entry k v = ap (λ (z : List ℕ). entry z e.value) (sym (same_true k e.key n)) ∙ ap (entry k) (some_injective e.value v (sym (lookup_same k e es n) ∙ h)) in
        subst (λ (f : Entry). Member (entry k v) (f ∷ es)) (sym q) here
    go false n ih = there (ih (sym (lookup_other k e es n) ∙ h))

member_key : (P : List ℕ → Type 0) {e : Entry} {es : List Entry} → Keys P es → Member e es → P e.key
member_key P h here = h.0
member_key P h (there m) = member_key P h.1 m

pub member_found : {e : Entry} {es : List Entry} → rising es ≡ true → Member e es → lookup e.key es ≡ Some e.value
unfolding rising
member_found {e} r (here {es}) = lookup_same e.key e es (same_refl e.key)
member_found {e} r (there {f} {es} m) =
    lookup_other e.key f es (same_swap f.key e.key (before_differs f.key e.key (member_key (λ (x : List ℕ). comes_before f.key x ≡ true) (above_keys f.key es r) m)))
    ∙ member_found (rising_tail f.key es r) m

-- what put and remove leave
pub put_after : (k : List ℕ) (v : ℕ) (es : List Entry) → is_key k ≡ true → no_room k es ≡ false → (operate (put k v) es).after ≡ insert k v es
unfolding put_to
put_after k v es p f = rw (p, f)

pub remove_after : (k : List ℕ) (es : List Entry) → is_key k ≡ true → (operate (remove k) es).after ≡ without k es
unfolding remove_from
remove_after k es p = go (has k es) refl
  where
    go : (t : Bool) → has k es ≡ t → (operate (remove k) es).after ≡ without k es
    go true h = rw (p, h)
    go false h = rw (p, h) (sym (without_new k es h))
