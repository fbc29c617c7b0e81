-- What each function answers, return by return. Assumes nothing.
use mathlib.Core.Path.{◌≡◌, refl}
use mathlib.Core.Bool.{Bool, true, false, not}
use mathlib.Core.List.{List}
use Prim.Native.Nat.{ℕ, ◌+◌, ◌≤◌, ◌<◌}
use lib.Dec.{leb}
use lib.ListN.{length}
use Rattle.refusal.specs.declared.Refusal.{Refusal}
use Rattle.octets.specs.Pick.{pick, both}
use borrow.Author.Tests.{le-leb, lt-leb, leb-true, ne_eqb}
use Rattle.octets.specs.Bytes.{Bytes}
use Rattle.std.proofs.Common.{is_none, Option}
use Rattle.octets.proofs.Laws.{both_true}
use Rattle.id.specs.declared.Id.{Id}
use Rattle.id.specs.Id.{greatest, below}
use Rattle.groups.specs.Group.{pending_up_to}
use Rattle.groups.specs.Bytes.{region_bytes}
use Rattle.groups.specs.Parse.{group_in, is_region, parse_region}
use Rattle.groups.specs.Step as step
use Rattle.groups.specs.Answer.{SoundRegion}
use Rattle.groups.specs.Area.{parse_area}
use Rattle.groups.proofs.Laws.{parse_sound}
use Rattle.groups_change.specs.Change.{refusal_to_deliver, unless_refused, found_count, refusal_to_claim, claim_moves, claimed_as}
use Rattle.group_area.specs.Answer.{groups_in, SoundArea, refusal_to_create, created_bytes, refusal_to_destroy, destroyed_bytes}
use Rattle.group_area.proofs.Laws.{judged_area}
use Rattle.bench_groups.specs.Answer.{After, sound_in, is_short, number_or_0, delivers, acknowledges, claim_number, claims, drops, area_sound, creates, destroys}

pub region_sound : (s : List ℕ) → Bytes s → sound_in s ≡ true → SoundRegion s
unfolding sound_in parse_region
region_sound s b e = (parse_sound s (group_in s) b (rw (both_true (is_region s) (pending_up_to greatest (group_in s).pending) e).0)).sound

pub size_bad : (s : List ℕ) → (length s ≡ 7220 → ⊥) → false ≡ sound_in s
unfolding sound_in is_region
size_bad s h = rw (ne_eqb (length s) 7220 h)

pub region_judged : (s : List ℕ) → both (is_region s) (pending_up_to greatest (group_in s).pending) ≡ sound_in s
unfolding sound_in
region_judged s = refl

pub area_sound_lem : (s : List ℕ) → Bytes s → area_sound s ≡ true → SoundArea s
unfolding area_sound
area_sound_lem s b e = judged_area greatest s b e

pub area_judged : (s : List ℕ) → not (is_none (parse_area greatest s)) ≡ area_sound s
unfolding area_sound
area_judged s = refl

-- names of 1 to 16 bytes
pub short_none : (n : List ℕ) → length n < 1 → false ≡ is_short n
unfolding is_short
short_none n h = rw (lt-leb 1 (length n) h)

pub short_some : (n : List ℕ) → 1 ≤ length n → leb (length n) 16 ≡ is_short n
unfolding is_short
short_some n h = rw (le-leb 1 (length n) h)

pub short_is : (n : List ℕ) → is_short n ≡ true → (1 ≤ length n) × (length n ≤ 16)
unfolding is_short
short_is n e = let p = both_true (leb 1 (length n)) (leb (length n) 16) e in (leb-true 1 (length n) p.0, leb-true (length n) 16 p.1)

-- an answer of a function and the bytes that it leaves
abbrev pub Is : After → ℕ → List ℕ → Type 0
Is a n s = (n ≡ a.answer) × (s ≡ a.bytes)

module _ (c : List ℕ) (t : ℕ) (i : Id) (s : List ℕ) where
  pub deliver_bad : sound_in s ≡ false → Is (delivers c t i s) 2 s
  unfolding delivers
  deliver_bad e = (rw e, rw e)

  module _ (e : sound_in s ≡ true) where
    pub deliver_name : is_short c ≡ false → Is (delivers c t i s) 3 s
    unfolding delivers
    deliver_name f = (rw (e, f), rw (e, f))

    module _ (f : is_short c ≡ true) where
      pub deliver_old : below (group_in s).delivered i ≡ false → Is (delivers c t i s) 4 s
      unfolding delivers
      deliver_old b = (rw (e, f, b), rw (e, f, b))

      pub deliver_by : below (group_in s).delivered i ≡ true → (d : Option Refusal) → d ≡ refusal_to_deliver c (group_in s)
          → Is (delivers c t i s) (number_or_0 d) (unless_refused d s (region_bytes (step.deliver c t i (group_in s))))
      unfolding delivers
      deliver_by b d q = (rw (e, f, b, q), rw (e, f, b, q))

module _ (i : Id) (s : List ℕ) where
  pub acknowledge_bad : sound_in s ≡ false → Is (acknowledges i s) 2 s
  unfolding acknowledges
  acknowledge_bad e = (rw e, rw e)

  pub acknowledge_by : sound_in s ≡ true → Is (acknowledges i s) (found_count (step.find_pending i (group_in s).pending)) (region_bytes (step.acknowledge i (group_in s)))
  unfolding acknowledges
  acknowledge_by e = (rw e, rw e)

module _ (c : List ℕ) (least : ℕ) (i : Id) (t : ℕ) (s : List ℕ) where
  pub claim_bad : sound_in s ≡ false → Is (claims c least i t s) 2 s
  unfolding claims
  claim_bad e = (rw e, rw e)

  module _ (e : sound_in s ≡ true) where
    pub claim_name : is_short c ≡ false → Is (claims c least i t s) 3 s
    unfolding claims
    claim_name f = (rw (e, f), rw (e, f))

    pub claim_by : is_short c ≡ true → (d : Option Refusal) (b : Bool) → d ≡ refusal_to_claim c least i t (group_in s) → b ≡ claim_moves c least i t (group_in s)
        → Is (claims c least i t s) (claim_number d b) (pick b (region_bytes (claimed_as c t (group_in s) (step.find_pending i (group_in s).pending))) s)
    unfolding claims
    claim_by f d b q m = (rw (e, f, q, m), rw (e, f, m))

module _ (c s : List ℕ) where
  pub drop_bad : sound_in s ≡ false → Is (drops c s) 0 s
  unfolding drops
  drop_bad e = (rw e, rw e)

  pub drop_by : sound_in s ≡ true → Is (drops c s) (1 + length (step.pending_of c (group_in s).pending)) (region_bytes (step.drop_consumer c (group_in s)))
  unfolding drops
  drop_by e = (rw e, rw e)

module _ (n : List ℕ) (start : Id) (s : List ℕ) where
  pub create_bad : area_sound s ≡ false → Is (creates n start s) 2 s
  unfolding creates
  create_bad e = (rw e, rw e)

  module _ (e : area_sound s ≡ true) where
    pub create_name : is_short n ≡ false → Is (creates n start s) 3 s
    unfolding creates
    create_name f = (rw (e, f), rw (e, f))

    pub create_by : is_short n ≡ true → (d : Option Refusal) → d ≡ refusal_to_create n (groups_in s) → Is (creates n start s) (number_or_0 d) (created_bytes d n start s)
    unfolding creates
    create_by f d q = (rw (e, f, q), rw (e, f, q))

module _ (n s : List ℕ) where
  pub destroy_bad : area_sound s ≡ false → Is (destroys n s) 2 s
  unfolding destroys
  destroy_bad e = (rw e, rw e)

  pub destroy_by : area_sound s ≡ true → (d : Option Refusal) → d ≡ refusal_to_destroy n (groups_in s) → Is (destroys n s) (number_or_0 d) (destroyed_bytes d n s)
  unfolding destroys
  destroy_by e d q = (rw (e, q), rw (e, q))
