-- A sound region with one thing changed is the region of the changed group. Assumes nothing.
use mathlib.Core.Path.{◌≡◌, refl, sym, ap, ap₂, ◌∙◌}
use mathlib.Core.Bool.{Bool, true, false}
use mathlib.Core.List.{List, [], ◌++◌}
use Rattle.std.proofs.Common.{Option, Some, None}
use Prim.Native.Nat.{ℕ, suc, ◌+◌, ◌-◌, ◌*◌, ◌≤◌, ◌<◌}
use native.Mathlib.Omega.{arith}
use lib.Dec.{leb}
use lib.ListN.{length, get_or, take, drop, length-append, length-drop}
use lib.Seq.{split_at, length-take-le}
use Rattle.octets.specs.Pick.{pick}
use Rattle.octets.specs.Bytes.{le}
use Rattle.octets.specs.Place.{put, spliced}
use Rattle.id.specs.declared.Id.{Id}
use Rattle.groups.specs.Group.{Pending, Group, is_among}
use Rattle.groups.specs.Bytes.{region_bytes}
use Rattle.groups.specs.Parse.{group_in}
use Rattle.groups.specs.Step.{idle, find_pending, acknowledge, lacks_consumer}
use Rattle.groups.specs.Answer.{SoundRegion, place_of_id, held_as, held_in}
use Rattle.groups.proofs.Laws.{Rules, stands}
use Rattle.groups.specs.declared.PendingEntry.{PendingEntry}
use Rattle.refusal.specs.declared.Refusal.{Refusal}
use Rattle.octets.proofs.Options.{some_injective}
use Rattle.refusal.specs.declared.Refusal.TheVariants.{MostConsumers, MostPending}
use Rattle.groups_change.specs.Change.{with_pending, without_at, refusal_to_deliver, refusal_to_claim, claim_moves}
use borrow.Author.Tests.{le-leb, lt-leb, leb-false}
use Rattle.groups_change.proofs.Moves.{nobody}
use Rattle.groups_change.proofs.Shapes.{shape, region_shape, sound_rules, sound_short, sound_shape, shape_number, shape_remove}

-- the parts of a sound region
module _ (s : List ℕ) (h : SoundRegion s) where
  abbrev g : Group
  g = group_in s

  r : Rules (group_in s)
  r = sound_rules s h

  short : length (group_in s).name ≤ 16
  short = sound_short s h

  -- an entry taken out
  pub entry_removed : (n i : ℕ) → n ≡ length g.pending → i < length g.pending
      → put (spliced s (308 + n * 27) (308 + i * 27) 27 []) 306 (le 2 (n - 1)) ≡ region_bytes (with_pending (without_at i g.pending) g)
  entry_removed n i e l =
      let ps = g.pending in
      let xs : List Pending = take i ps in
      let ys : List Pending = drop (suc i) ps in
      let p : Pending = get_or ps i nobody in
      let lx : length xs ≡ i = length-take-le i ps (omega arith) in
      let ly : length ys ≡ length ps - suc i = length-drop (suc i) ps in
      let room = r.room in
      let u : 308 + n * 27 ≡ 308 + (length xs + suc (length ys)) * 27 = omega arith in
      let c : n - 1 ≡ length (xs ++ ys) = omega (arith, length-append xs ys) in
      let at : 308 + i * 27 ≡ 308 + length xs * 27 = omega arith in
      ap₂ (λ (l : List ℕ) (m : ℕ). put (spliced l (308 + n * 27) m 27 []) 306 (le 2 (n - 1)))
      (sound_shape s h ∙ ap (λ (q : List Pending). shape g.name g.delivered (length g.consumers) g.consumers (length ps) g.consumers q) (split_at ps i nobody l)) at
      ∙ ap₂ (λ (l : List ℕ) (m : ℕ). put l 306 (le 2 m))
      (shape_remove g.name g.delivered (length g.consumers) short g.consumers r.names r.few (length ps) g.consumers xs p ys (308 + n * 27) u (omega arith)) c
      ∙ shape_number g.name g.delivered (length g.consumers) short g.consumers r.names r.few (length ps) (length (xs ++ ys)) g.consumers (xs ++ ys)
      ∙ sym (region_shape (with_pending (xs ++ ys) g))

-- what find pending says
pub record HeldEntry (i : Id) (g : Group) (e : PendingEntry) : Type 0 where
  pub found : Pending
  pub is_found : find_pending i g.pending ≡ Some found
  pub is_place_lem : e.place ≡ place_of_id i g.pending
  pub is_time : found.time ≡ e.time
  pub is_count_lem : found.count ≡ e.count

held_case : (i : Id) (g : Group) (x : PendingEntry) (o : Option Pending) → find_pending i g.pending ≡ o
    → held_as g.consumers (place_of_id i g.pending) o ≡ Some x → HeldEntry i g x
held_case i g x None f e = absurd (let z : ◌≡◌ {A = ℕ} 0 1 = cc in omega arith)
held_case i g x (Some p) f e =
    let q = some_injective _ _ e in
    record {
      found = p;
      is_found = f;
      is_place_lem = ap (λ (y : PendingEntry). y.place) (sym q);
      is_time = ap (λ (y : PendingEntry). y.time) q;
      is_count_lem = ap (λ (y : PendingEntry). y.count) q;
    }

pub held_entry : (i : Id) (g : Group) (x : PendingEntry) → held_in i g ≡ Some x → HeldEntry i g x
unfolding held_in
held_entry i g x e = held_case i g x (find_pending i g.pending) refl e

missing_case : (cs : List (List ℕ)) (k : ℕ) (o : Option Pending) → held_as cs k o ≡ None → o ≡ None
missing_case cs k None e = refl
missing_case cs k (Some p) e = absurd (let z : ◌≡◌ {A = ℕ} 0 1 = cc in omega arith)

pub held_missing : (i : Id) (g : Group) → held_in i g ≡ None → find_pending i g.pending ≡ None
unfolding held_in
held_missing i g e = missing_case g.consumers (place_of_id i g.pending) (find_pending i g.pending) e

-- acknowledge
pub acknowledge_found : (i : Id) (g : Group) (p : Pending) → find_pending i g.pending ≡ Some p
    → with_pending (without_at (place_of_id i g.pending) g.pending) g ≡ acknowledge i g
unfolding acknowledge
acknowledge_found i g p f = ap (λ (l : List Pending). with_pending l g) (sym (stands i g.pending p f).without)

-- is there room for the consumer?
pub lacks_known : (c : List ℕ) (g : Group) → is_among c g.consumers ≡ true → lacks_consumer c g ≡ false
unfolding lacks_consumer
lacks_known c g e = rw e

pub lacks_unknown : (c : List ℕ) (g : Group) (n : ℕ) → n ≡ length g.consumers → is_among c g.consumers ≡ false → lacks_consumer c g ≡ leb 16 n
unfolding lacks_consumer
lacks_unknown c g n q e = rw (e, q)

-- what deliver answers
module _ (c : List ℕ) (g : Group) where
  pub deliver_12 : lacks_consumer c g ≡ true → refusal_to_deliver c g ≡ Some MostConsumers
  unfolding refusal_to_deliver
  deliver_12 e = rw e

  module _ (n : ℕ) (q : n ≡ length g.pending) (e : lacks_consumer c g ≡ false) where
    pub deliver_13 : 256 ≤ n → refusal_to_deliver c g ≡ Some MostPending
    unfolding refusal_to_deliver
    deliver_13 h = rw (e, le-leb 256 (length g.pending) (omega arith))

    pub deliver_done : n < 256 → refusal_to_deliver c g ≡ None
    unfolding refusal_to_deliver
    deliver_done h = rw (e, lt-leb 256 (length g.pending) (omega arith))

free_case : (a b : Bool) → pick {A = Option Refusal} a (Some MostConsumers) (pick b (Some MostPending) None) ≡ None → (a ≡ false) × (b ≡ false)
free_case true b e = absurd (let z : ◌≡◌ {A = ℕ} 0 1 = cc in omega arith)
free_case false true e = absurd (let z : ◌≡◌ {A = ℕ} 0 1 = cc in omega arith)
free_case false false e = (refl, refl)

pub deliver_free : (c : List ℕ) (g : Group) → refusal_to_deliver c g ≡ None → (lacks_consumer c g ≡ false) × (length g.pending < 256)
unfolding refusal_to_deliver
deliver_free c g e =
    let q = free_case (lacks_consumer c g) (leb 256 (length g.pending)) e in
    (q.0, leb-false 256 (length g.pending) q.1)

-- what claim answers
module _ (c : List ℕ) (least_idle : ℕ) (i : Id) (now : ℕ) (g : Group) where
  abbrev pub ClaimIs : Option Refusal → Bool → Type 0
  ClaimIs o moves = (o ≡ refusal_to_claim c least_idle i now g) × (moves ≡ claim_moves c least_idle i now g)

  pub claim_missing : find_pending i g.pending ≡ None → ClaimIs None false
  unfolding refusal_to_claim claim_moves
  claim_missing f = (rw f, rw f)

  module _ (p : Pending) (f : find_pending i g.pending ≡ Some p) (x : ℕ) (q : x ≡ idle now p.time) where
    pub claim_busy : x < least_idle → ClaimIs None false
    unfolding refusal_to_claim claim_moves
    claim_busy h = let l = lt-leb least_idle (idle now p.time) (omega arith) in (rw (f, l), rw (f, l))

    pub claim_12 : least_idle ≤ x → lacks_consumer c g ≡ true → ClaimIs (Some MostConsumers) false
    unfolding refusal_to_claim claim_moves
    claim_12 h e = let l = le-leb least_idle (idle now p.time) (omega arith) in (rw (f, l, e), rw (f, l, e))

    pub claim_moved : least_idle ≤ x → lacks_consumer c g ≡ false → ClaimIs None true
    unfolding refusal_to_claim claim_moves
    claim_moved h e = let l = le-leb least_idle (idle now p.time) (omega arith) in (rw (f, l, e), rw (f, l, e))
