-- What the functions answer, in terms of the group that a region holds. Assumes nothing.
use Rattle.std.specs.Prelude.{◌≡◌, Bool, true, List, [], ◌∷◌, ℕ, ◌+◌, Option, Some, None}
use Rattle.octets.specs.Pick.{pick, both}
use Rattle.octets.specs.Compare.{order_of}
use Rattle.std.specs.declared.cmp.Ordering.{Ordering}
use Rattle.std.specs.declared.cmp.Ordering.TheVariants.{Less, Equal, Greater}
use Rattle.id.specs.declared.Id.{Id}
use Rattle.groups.specs.declared.Spot.{Spot}
use Rattle.groups.specs.declared.Spot.TheVariants.{Known, New}
use Rattle.groups.specs.declared.PendingEntry.{PendingEntry}
use Rattle.groups.specs.declared.NextEntry.{NextEntry}
use Rattle.groups.specs.Group.{Pending, Group, is_among, is_group}
use Rattle.groups.specs.Bytes.{place_of_name, region_bytes}
use Rattle.groups.specs.Parse.{group_in}
use Rattle.groups.specs.Step.{with_name, find_pending}
use Rattle.id.specs.Id.{is_id, below, at_most, same_id}

-- a sound region has the bytes of the group that is read of it, and that keeps the rules
pub record SoundRegion (s : List ℕ) : Type 0 where
  pub laid : s ≡ region_bytes (group_in s)
  pub rules_kept : is_group (group_in s) ≡ true

-- where a name stands among rising names, or the place that it would get
abbrev pub spot_by : Ordering → ℕ → Spot → Spot
spot_by Less k later = New k
spot_by Equal k later = Known k
spot_by Greater k later = later

unfoldable pub spot_from : ℕ → List ℕ → List (List ℕ) → Spot
spot_from k n [] = New k
spot_from k n (m ∷ ms) = spot_by (order_of n m) k (spot_from (k + 1) n ms)

-- find consumer
unfoldable pub place_in : List ℕ → List (List ℕ) → Option ℕ
place_in n ns = pick (is_among n ns) (Some (place_of_name n ns)) None

-- find pending: the entry's place, its consumer's place, its time and count
unfoldable pub place_of_id : Id → List Pending → ℕ
place_of_id i [] = 0
place_of_id i (p ∷ ps) = pick (same_id p.id i) 0 (1 + place_of_id i ps)

abbrev pub held_as : List (List ℕ) → ℕ → Option Pending → Option PendingEntry
held_as consumers k None = None
held_as consumers k (Some p) = Some (record { place = k; consumer = place_of_name p.consumer consumers; time = p.time; count = p.count })

unfoldable pub held_in : Id → Group → Option PendingEntry
held_in i g = held_as g.consumers (place_of_id i g.pending) (find_pending i g.pending)

-- next pending: the consumer's entry that an answer gives, or none
abbrev pub entry_given : List ℕ → Option NextEntry → Option Pending
entry_given consumer (Some e) = Some (record { id = e.id; consumer = consumer; time = e.time; count = e.count })
entry_given consumer None = None

-- a consumer is made if new
unfoldable pub with_consumer : List ℕ → Group → Group
with_consumer consumer g =
    record { name = g.name; delivered = g.delivered; consumers = with_name consumer g.consumers; pending = g.pending }

-- what a batch is: rising IDs above i, each at most the last ID
unfoldable pub ids_above : Id → List Id → Bool
ids_above i [] = true
ids_above i (j ∷ js) = both (both (is_id j) (below i j)) (ids_above j js)

unfoldable pub ids_up_to : Id → List Id → Bool
ids_up_to last [] = true
ids_up_to last (j ∷ js) = both (at_most j last) (ids_up_to last js)
