-- What each function answers to C, and the bytes that it leaves. Assumes nothing.
use Rattle.std.specs.Prelude.{Bool, true, false, not, List, ℕ, ◌+◌, leb, length, is_none, Option, Some, None}
use Rattle.refusal.specs.declared.Refusal.{Refusal}
use Rattle.refusal.specs.Number.{number_of}
use Rattle.octets.specs.Pick.{pick, both}
use Rattle.id.specs.declared.Id.{Id}
use Rattle.id.specs.Id.{greatest, below}
use Rattle.groups.specs.Group.{longest_name, pending_up_to}
use Rattle.groups.specs.Bytes.{region_bytes}
use Rattle.groups.specs.Parse.{group_in, is_region}
use Rattle.groups.specs.Step as step
use Rattle.groups.specs.Area.{parse_area}
use Rattle.groups_change.specs.Change.{refusal_to_deliver, unless_refused, found_count, refusal_to_claim, claim_moves, claimed_as}
use Rattle.group_area.specs.Answer.{groups_in, refusal_to_create, created_bytes, refusal_to_destroy, destroyed_bytes}

abbrev pub as_number : Bool → ℕ
as_number true = 1
as_number false = 0

-- a number and the bytes
pub record After : Type 0 where
  pub answer : ℕ
  pub bytes : List ℕ

abbrev pub after : ℕ → List ℕ → After
after n s = record { answer = n; bytes = s }

unfoldable pub sound_in : List ℕ → Bool
sound_in s = both (is_region s) (pending_up_to greatest (group_in s).pending)

unfoldable pub is_short : List ℕ → Bool
is_short n = both (leb 1 (length n)) (leb (length n) longest_name)

-- a refusal's number, or 0
abbrev pub number_or_0 : Option Refusal → ℕ
number_or_0 None = 0
number_or_0 (Some r) = number_of r

unfoldable pub delivers : List ℕ → ℕ → Id → List ℕ → After
delivers c now i s =
    pick (sound_in s)
    (pick (is_short c)
    (pick (below (group_in s).delivered i)
    (after (number_or_0 (refusal_to_deliver c (group_in s))) (unless_refused (refusal_to_deliver c (group_in s)) s (region_bytes (step.deliver c now i (group_in s)))))
    (after 4 s))
    (after 3 s))
    (after 2 s)

unfoldable pub acknowledges : Id → List ℕ → After
acknowledges i s =
    pick (sound_in s) (after (found_count (step.find_pending i (group_in s).pending)) (region_bytes (step.acknowledge i (group_in s)))) (after 2 s)

-- 34, not moved
abbrev pub claim_number : Option Refusal → Bool → ℕ
claim_number (Some r) moves = number_of r
claim_number None true = 0
claim_number None false = 34

unfoldable pub claims : List ℕ → ℕ → Id → ℕ → List ℕ → After
claims c least i now s =
    pick (sound_in s)
    (pick (is_short c)
    (after (claim_number (refusal_to_claim c least i now (group_in s)) (claim_moves c least i now (group_in s)))
    (pick (claim_moves c least i now (group_in s)) (region_bytes (claimed_as c now (group_in s) (step.find_pending i (group_in s).pending))) s))
    (after 3 s))
    (after 2 s)

unfoldable pub drops : List ℕ → List ℕ → After
drops c s =
    pick (sound_in s) (after (1 + length (step.pending_of c (group_in s).pending)) (region_bytes (step.drop_consumer c (group_in s)))) (after 0 s)

unfoldable pub area_sound : List ℕ → Bool
area_sound s = not (is_none (parse_area greatest s))

unfoldable pub creates : List ℕ → Id → List ℕ → After
creates n start s =
    pick (area_sound s)
    (pick (is_short n) (after (number_or_0 (refusal_to_create n (groups_in s))) (created_bytes (refusal_to_create n (groups_in s)) n start s)) (after 3 s))
    (after 2 s)

unfoldable pub destroys : List ℕ → List ℕ → After
destroys n s =
    pick (area_sound s) (after (number_or_0 (refusal_to_destroy n (groups_in s))) (destroyed_bytes (refusal_to_destroy n (groups_in s)) n s)) (after 2 s)
