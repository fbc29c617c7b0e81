-- What a change answers and leaves, in terms of the group that a region holds. Assumes nothing.
use Rattle.std.specs.Prelude.{Bool, false, not, List, [], ◌∷◌, ◌++◌, ℕ, zero, suc, leb, length, take, drop, Option, Some, None}
use Rattle.refusal.specs.declared.Refusal.{Refusal}
use Rattle.refusal.specs.declared.Refusal.TheVariants.{MostConsumers, MostPending}
use Rattle.octets.specs.Pick.{pick, both}
use Rattle.octets.specs.Bytes.{le}
use Rattle.id.specs.declared.Id.{Id}
use Rattle.id.specs.Bytes.{id_bytes, id_from}
use Rattle.groups.specs.Group.{Pending, Group, most_pending}
use Rattle.groups.specs.Step.{idle, without_name, find_pending, claim, lacks_consumer}

-- one part of a group changed
abbrev pub with_pending : List Pending → Group → Group
with_pending ps g = record { name = g.name; delivered = g.delivered; consumers = g.consumers; pending = ps }

unfoldable pub without_consumer : List ℕ → Group → Group
without_consumer consumer g =
    record { name = g.name; delivered = g.delivered; consumers = without_name consumer g.consumers; pending = g.pending }

-- the entry at a place taken out
abbrev pub without_at : ℕ → List Pending → List Pending
without_at k ps = take k ps ++ drop (suc k) ps

-- an entry's bytes, with its consumer's place
abbrev pub row_of : Id → ℕ → ℕ → ℕ → List ℕ
row_of i place time count = id_bytes i ++ (place ∷ (le 8 time ++ le 2 count))

-- deliver: 12, a consumer would be made and 16 exist; then 13, 256 pending
unfoldable pub refusal_to_deliver : List ℕ → Group → Option Refusal
refusal_to_deliver consumer g =
    pick (lacks_consumer consumer g) (Some MostConsumers) (pick (leb most_pending (length g.pending)) (Some MostPending) None)

-- the IDs of a batch, 16 bytes each, as they lie one after the other
unfoldable pub ids_in : ℕ → List ℕ → List Id
ids_in zero s = []
ids_in (suc k) s = id_from (take 16 s) ∷ ids_in k (drop 16 s)

-- a refusal leaves the bytes as they were
abbrev pub unless_refused : Option Refusal → List ℕ → List ℕ → List ℕ
unless_refused None old new = new
unless_refused (Some r) old new = old

-- acknowledge: 1, or 0 if not pending
abbrev pub found_count : Option Pending → ℕ
found_count None = 0
found_count (Some p) = 1

-- the claim's conditions: the ID is pending, and idle for long enough
abbrev pub is_claimable : ℕ → ℕ → Option Pending → Bool
is_claimable least now None = false
is_claimable least now (Some p) = leb least (idle now p.time)

-- claim: 12, a consumer would be made and 16 exist
unfoldable pub refusal_to_claim : List ℕ → ℕ → Id → ℕ → Group → Option Refusal
refusal_to_claim consumer least i now g =
    pick (both (is_claimable least now (find_pending i g.pending)) (lacks_consumer consumer g)) (Some MostConsumers) None

-- whether the entry moves to the consumer
unfoldable pub claim_moves : List ℕ → ℕ → Id → ℕ → Group → Bool
claim_moves consumer least i now g =
    both (is_claimable least now (find_pending i g.pending)) (not (lacks_consumer consumer g))

abbrev pub claimed_as : List ℕ → ℕ → Group → Option Pending → Group
claimed_as consumer now g None = g
claimed_as consumer now g (Some p) = claim consumer now p g
