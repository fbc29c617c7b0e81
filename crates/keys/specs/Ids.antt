-- Entries whose keys are the 16 bytes of IDs (01, The index: "here 16: ms then seq, big-endian"), made of a list of anything that has an
-- ID and a value, and their order by the IDs. Assumes nothing.
use Rattle.std.specs.Prelude.{Bool, true, List, [], ◌∷◌, ℕ, Option, Some, None}
use Rattle.octets.specs.Pick.{pick, both}
use Rattle.std.specs.Option.{option_or}
use Rattle.id.specs.declared.Id.{Id}
use Rattle.id.specs.Id.{below, Fits64}
use Rattle.id.specs.Bytes.{id_bytes}
use Rattle.keys.specs.Entries.{Entry, entry}

abbrev pub entries_by : {A : Type 0} → (A → Id) → (A → ℕ) → List A → List Entry
entries_by f v [] = []
entries_by f v (x ∷ xs) = entry (id_bytes (f x)) (v x) ∷ entries_by f v xs

abbrev pub entry_by : {A : Type 0} → (A → Id) → (A → ℕ) → Option A → Option Entry
entry_by f v None = None
entry_by f v (Some x) = Some (entry (id_bytes (f x)) (v x))

abbrev pub AllFit64 : {A : Type 0} → (A → Id) → List A → Type 0
AllFit64 f [] = Unit {0}
AllFit64 f (x ∷ xs) = Fits64 (f x) × AllFit64 f xs

-- every ID is above i and above those before it
unfoldable pub above_by : {A : Type 0} → (A → Id) → Id → List A → Bool
above_by f i [] = true
above_by f i (x ∷ xs) = both (below i (f x)) (above_by f (f x) xs)

-- the first at or above i, and the last at or below
unfoldable pub first_by : {A : Type 0} → (A → Id) → Id → List A → Option A
first_by f i [] = None
first_by f i (x ∷ xs) = pick (below (f x) i) (first_by f i xs) (Some x)

unfoldable pub last_by : {A : Type 0} → (A → Id) → Id → List A → Option A
last_by f i [] = None
last_by f i (x ∷ xs) = pick (below i (f x)) None (option_or (last_by f i xs) (Some x))
