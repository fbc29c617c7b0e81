-- Entries whose keys are the bytes of IDs stand in the order of the IDs. Assumes nothing.
use mathlib.Core.Bool.{Bool, true, false}
use mathlib.Core.Path.{◌≡◌, refl, ap, ap₂}
use mathlib.Core.List.{List, [], ◌∷◌}
use Rattle.std.proofs.Common.{Option, Some, None}
use Prim.Native.Nat.{ℕ}
use lib.ListN.{length}
use Rattle.octets.specs.Pick.{pick, both}
use Rattle.std.specs.Option.{option_or}
use Rattle.octets.specs.Bytes.{Bytes}
use Rattle.octets.specs.Compare.{is_less, comes_before}
use Rattle.id.specs.declared.Id.{Id}
use Rattle.id.specs.Id.{below, Fits64}
use Rattle.id.specs.Bytes.{id_bytes}
use Rattle.id.proofs.Laws.{order_bytes, length_id_bytes, bytes_id}
use Rattle.keys.specs.Entries.{entry, all_above, first_from, last_up_to}
use Rattle.keys.specs.Ids.{entries_by, entry_by, AllFit64, above_by, first_by, last_by}
use Rattle.keys.proofs.Every.{Keys}

pub before_ids : (a b : Id) → Fits64 a → Fits64 b → comes_before (id_bytes a) (id_bytes b) ≡ below a b
before_ids a b p q = ap is_less (order_bytes a b p q)

module _ {A : Type 0} (f : A → Id) (v : A → ℕ) where
  above_ids : (i : Id) (xs : List A) → Fits64 i → AllFit64 f xs → all_above (id_bytes i) (entries_by f v xs) ≡ above_by f i xs
  unfolding all_above above_by
  above_ids i [] p h = refl
  above_ids i (x ∷ xs) p h = ap₂ both (before_ids i (f x) p h.0) (above_ids (f x) xs h.0 h.1)

  pub first_ids : (i : Id) (xs : List A) → Fits64 i → AllFit64 f xs → first_from (id_bytes i) (entries_by f v xs) ≡ entry_by f v (first_by f i xs)
  unfolding first_from first_by
  first_ids i [] p h = refl
  first_ids i (x ∷ xs) p h = go (below (f x) i) (before_ids (f x) i h.0 p) (first_ids i xs p h.1)
    where
      go : (t : Bool) → comes_before (id_bytes (f x)) (id_bytes i) ≡ t → first_from (id_bytes i) (entries_by f v xs) ≡ entry_by f v (first_by f i xs)
          → pick (comes_before (id_bytes (f x)) (id_bytes i)) (first_from (id_bytes i) (entries_by f v xs)) (Some (entry (id_bytes (f x)) (v x))) ≡ entry_by f v (pick t (first_by f i xs) (Some x))
      go true e ih = rw e ih
      go false e ih = rw e

  pub last_ids : (i : Id) (xs : List A) → Fits64 i → AllFit64 f xs → last_up_to (id_bytes i) (entries_by f v xs) ≡ entry_by f v (last_by f i xs)
  unfolding last_up_to last_by
  last_ids i [] p h = refl
  last_ids i (x ∷ xs) p h =
      go (below i (f x)) (before_ids i (f x) p h.0) (last_by f i xs) (last_ids i xs p h.1)
    where
      go : (t : Bool) → comes_before (id_bytes i) (id_bytes (f x)) ≡ t → (o : Option A) → last_up_to (id_bytes i) (entries_by f v xs) ≡ entry_by f v o
          → pick (comes_before (id_bytes i) (id_bytes (f x))) None (option_or (last_up_to (id_bytes i) (entries_by f v xs)) (Some (entry (id_bytes (f x)) (v x)))) ≡ entry_by f v (pick t None (option_or o (Some x)))
      go true e o ih = rw e
      go false e None ih = rw (e, ih)
      go false e (Some y) ih = rw (e, ih)

  -- they are 16 bytes each
  pub ids_long : (xs : List A) → Keys (λ (k : List ℕ). length k ≡ 16) (entries_by f v xs)
  ids_long [] = tt
  ids_long (x ∷ xs) = (length_id_bytes (f x), ids_long xs)

  pub ids_bytes_lem : (xs : List A) → Keys Bytes (entries_by f v xs)
  ids_bytes_lem [] = tt
  ids_bytes_lem (x ∷ xs) = (bytes_id (f x), ids_bytes_lem xs)
