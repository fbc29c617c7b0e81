-- What happens to a group, and to the groups (01, Commands). Assumes nothing.
use Rattle.std.specs.Prelude.{Bool, not, List, [], ◌∷◌, ℕ, ◌+◌, ◌-◌, min, leb, length, Option, Some, None}
use Rattle.octets.specs.Pick.{pick, both}
use Rattle.octets.specs.Compare.{same, comes_before}
use Rattle.id.specs.declared.Id.{Id}
use Rattle.id.specs.Id.{below, same_id}
use Rattle.groups.specs.Group.{Pending, Group, most_consumers, most_count, is_among}

-- a new consumer goes to its place
unfoldable pub with_name : List ℕ → List (List ℕ) → List (List ℕ)
with_name n [] = n ∷ []
with_name n (m ∷ ms) = pick (same n m) (m ∷ ms) (pick (comes_before n m) (n ∷ (m ∷ ms)) (m ∷ with_name n ms))

unfoldable pub without_name : List ℕ → List (List ℕ) → List (List ℕ)
without_name n [] = []
without_name n (m ∷ ms) = pick (same n m) ms (m ∷ without_name n ms)

unfoldable pub find_pending : Id → List Pending → Option Pending
find_pending i [] = None
find_pending i (p ∷ ps) = pick (same_id p.id i) (Some p) (find_pending i ps)

-- an entry goes to its place, and one of the same ID gives way
unfoldable pub put_pending : Pending → List Pending → List Pending
put_pending p [] = p ∷ []
put_pending p (q ∷ qs) =
    pick (same_id p.id q.id) (p ∷ qs)
    (pick (below p.id q.id) (p ∷ (q ∷ qs)) (q ∷ put_pending p qs))

unfoldable pub without_pending : Id → List Pending → List Pending
without_pending i [] = []
without_pending i (p ∷ ps) = pick (same_id p.id i) ps (p ∷ without_pending i ps)

-- that consumer's entries, and the others
unfoldable pub pending_of : List ℕ → List Pending → List Pending
pending_of n [] = []
pending_of n (p ∷ ps) = pick (same n p.consumer) (p ∷ pending_of n ps) (pending_of n ps)

unfoldable pub pending_of_others : List ℕ → List Pending → List Pending
pending_of_others n [] = []
pending_of_others n (p ∷ ps) = pick (same n p.consumer) (pending_of_others n ps) (p ∷ pending_of_others n ps)

-- the first entry above an ID
unfoldable pub first_above : Id → List Pending → Option Pending
first_above i [] = None
first_above i (p ∷ ps) = pick (below i p.id) (Some p) (first_above i ps)

-- 12, a consumer would be made and 16 exist
unfoldable pub lacks_consumer : List ℕ → Group → Bool
lacks_consumer consumer g =
    both (not (is_among consumer g.consumers)) (leb most_consumers (length g.consumers))

-- group read: the ID becomes last delivered and pending for that consumer, with time now and count 1; the consumer is made if new
unfoldable pub deliver : List ℕ → ℕ → Id → Group → Group
deliver consumer now i g =
    record {
      name = g.name;
      delivered = i;
      consumers = with_name consumer g.consumers;
      pending = put_pending (record { id = i; consumer = consumer; time = now; count = 1 }) g.pending;
    }

-- batch reading (02, CR 1): IDs delivered one after the other
unfoldable pub deliver_all : List ℕ → ℕ → List Id → Group → Group
deliver_all consumer now [] g = g
deliver_all consumer now (i ∷ is) g = deliver_all consumer now is (deliver consumer now i g)

-- acknowledge removes a pending entry
unfoldable pub acknowledge : Id → Group → Group
acknowledge i g =
    record { name = g.name; delivered = g.delivered; consumers = g.consumers; pending = without_pending i g.pending }

-- now minus delivery time, or 0 if the clock went back: the difference of natural numbers stops at 0
abbrev pub idle : ℕ → ℕ → ℕ
idle now time = now - time

-- claim: an entry moves to the consumer (made if new), its time becomes now, its count grows by 1 but stays at 65,535
unfoldable pub claim : List ℕ → ℕ → Pending → Group → Group
claim consumer now p g =
    record {
      name = g.name;
      delivered = g.delivered;
      consumers = with_name consumer g.consumers;
      pending = put_pending (record { id = p.id; consumer = consumer; time = now; count = min (p.count + 1) most_count }) g.pending;
    }

-- next pending: that consumer's next entry above the ID
unfoldable pub next_pending : List ℕ → Id → Group → Option Pending
next_pending consumer i g = first_above i (pending_of consumer g.pending)

-- drop consumer removes it and its entries
unfoldable pub drop_consumer : List ℕ → Group → Group
drop_consumer consumer g =
    record {
      name = g.name;
      delivered = g.delivered;
      consumers = without_name consumer g.consumers;
      pending = pending_of_others consumer g.pending;
    }

-- the groups by rising name: the one of a name, a new one at its place or in the place of its namesake, and the others
unfoldable pub find_group : List ℕ → List Group → Option Group
find_group n [] = None
find_group n (g ∷ gs) = pick (same n g.name) (Some g) (find_group n gs)

unfoldable pub put_group : Group → List Group → List Group
put_group g [] = g ∷ []
put_group g (h ∷ hs) =
    pick (same g.name h.name) (g ∷ hs)
    (pick (comes_before g.name h.name) (g ∷ (h ∷ hs)) (h ∷ put_group g hs))

unfoldable pub without_group : List ℕ → List Group → List Group
without_group n [] = []
without_group n (g ∷ gs) = pick (same n g.name) gs (g ∷ without_group n gs)

-- create group: a start ID as last delivered
abbrev pub new_group : List ℕ → Id → Group
new_group n start = record { name = n; delivered = start; consumers = []; pending = [] }
