-- An answer whose number is 1 or more leaves the plain ledger as it is: a refusal, none, nothing new, absent, not moved. Assumes nothing.
use mathlib.Core.Path.{◌≡◌, refl, ap, ◌∙◌}
use mathlib.Core.Bool.{true}
use mathlib.Core.List.{List}
use Prim.Native.Nat.{ℕ, ◌≤◌}
use native.Mathlib.Omega.{arith}
use lib.Dec.{leb, eqb}
use lib.ListN.{length}
use Rattle.std.proofs.Common.{is_none, Option, Some, None}
use Rattle.refusal.specs.declared.Refusal.{Refusal}
use Rattle.refusal.specs.declared.Refusal.TheVariants.{NoSlot, LowId, LongMessage, Full, GroupExists, MostGroups, MostConsumers, MostPending}
use Rattle.octets.proofs.Laws.{pick_by}
use Rattle.id.specs.declared.Id.{Id}
use Rattle.id.specs.Id.{below}
use Rattle.slip.specs.Slip.{parse_slip}
use Rattle.node.specs.Message.{Pair, Message, message}
use Rattle.node.specs.Step.{fits_alone, find_message, first_after}
use Rattle.groups.specs.Group.{Pending, Group, most_pending}
use Rattle.groups.specs.Area.{is_groups, most_groups}
use Rattle.groups.specs.Step as Groups
use Rattle.groups.proofs.Laws.{put_found_same}
use Rattle.stream.specs.Ledger.{Ledger, with_groups}
use Rattle.stream.specs.Command as Stream
use Rattle.stream.specs.Command.{refused, code_of}
use Rattle.stream.specs.LedgerStep.{LedgerStep, Beside, GroupStep, refuses, leaves, on_set_up, add_as, on_add, clock_id, add_following, on_add_by_clock, on_delete, on_trim, on_create, on_destroy, delivers, acknowledges, claims, on_group, in_ledger, name_refusal, request_refusal, ruled, ledger_step}
use Rattle.stream.proofs.Laws.{many_by}

-- 0 is no such number
answered : {P : Type 0} → 1 ≤ 0 → P
answered h = absurd (omega arith)

-- a group's command
abbrev Leaves : Group → GroupStep → Type 0
Leaves g s = 1 ≤ code_of s.answer → s.after ≡ g

read_stays : (consumer : List ℕ) (time : ℕ) (o : Option Message) (g : Group) → Leaves g (delivers consumer time o g)
read_stays consumer time None g = λ _. refl
read_stays consumer time (Some x) g =
    pick_by (Leaves g) (Groups.lacks_consumer consumer g) (leaves (refused MostConsumers) g) _ (λ _ _. refl)
    (λ _. pick_by (Leaves g) (leb most_pending (length g.pending)) (leaves (refused MostPending) g) _ (λ _ _. refl) (λ _ h. answered h))

group_stays : (c : Stream.GroupCommand) (ms : List Message) (g : Group) → Leaves g (on_group c ms g)
group_stays (Stream.group_read consumer time) ms g = read_stays consumer time (first_after g.delivered ms) g
group_stays (Stream.group_read_many consumer time n room) ms g =
    many_by (Leaves g) consumer time n room ms g (read_stays consumer time (first_after g.delivered ms) g) (λ _ h. answered h)
group_stays (Stream.acknowledge i) ms g = by (Groups.find_pending i g.pending)
  where
    by : (o : Option Pending) → Leaves g (acknowledges i o g)
    by None = λ _. refl
    by (Some p) = λ h. answered h
group_stays (Stream.claim consumer idle i time) ms g = by (Groups.find_pending i g.pending)
  where
    by : (o : Option Pending) → Leaves g (claims consumer idle time o g)
    by None = λ _. refl
    by (Some p) =
        pick_by (Leaves g) (leb idle (Groups.idle time p.time)) _ (leaves Stream.not_moved g)
        (λ _. pick_by (Leaves g) (Groups.lacks_consumer consumer g) (leaves (refused MostConsumers) g) _ (λ _ _. refl) (λ _ h. answered h)) (λ _ _. refl)
group_stays (Stream.next_pending consumer i) ms g = λ _. refl
group_stays (Stream.drop_consumer consumer) ms g = λ h. answered h

-- every command
module _ (b : Beside) (l : Ledger) where
  abbrev Stays : LedgerStep → Type 0
  Stays s = 1 ≤ code_of s.answer → s.after ≡ l

  add_stays : (m : Message) → Stays (add_as b m l)
  unfolding add_as
  add_stays m =
      pick_by Stays (fits_alone m) _ (refuses l LongMessage) (λ _. pick_by Stays b.full (refuses l Full) _ (λ _ _. refl) (λ _ h. answered h)) (λ _ _. refl)

  ruled_stays : (o : Option Refusal) (s : LedgerStep) → Stays s → Stays (ruled o l s)
  ruled_stays None s h = h
  ruled_stays (Some n) s h = λ _. refl

  pub ledger_stays : is_groups l.last l.groups ≡ true → (c : Stream.Command) → Stays (ledger_step b c l)
  unfolding on_set_up on_trim on_create
  ledger_stays k Stream.set_up = pick_by Stays (eqb b.slots 0) (refuses l NoSlot) _ (λ _ _. refl) (λ _ h. answered h)
  ledger_stays k (Stream.add i s) = by (parse_slip s)
    where
      by : (o : Option (List Pair)) → Stays (on_add b i o l)
      by None = λ _. refl
      by (Some ps) = pick_by Stays (below l.last i) (add_as b (message i ps) l) (refuses l LowId) (λ _. add_stays (message i ps)) (λ _ _. refl)
  ledger_stays k (Stream.add_by_clock time s) = by (parse_slip s)
    where
      next : (f : Option Id) (ps : List Pair) → Stays (add_following b f ps l)
      next None ps = λ _. refl
      next (Some i) ps = add_stays (message i ps)

      by : (o : Option (List Pair)) → Stays (on_add_by_clock b time o l)
      by None = λ _. refl
      by (Some ps) = next (clock_id time l.last) ps
  ledger_stays k (Stream.delete i) = by (find_message i l.messages)
    where
      by : (o : Option Message) → Stays (on_delete i o l)
      by None = λ _. refl
      by (Some m) = λ h. answered h
  ledger_stays k (Stream.trim n) = λ h. answered h
  ledger_stays k (Stream.create_group name start) =
      ruled_stays (name_refusal name) (on_create name start l)
      (pick_by Stays (is_none (Groups.find_group name l.groups)) _ (refuses l GroupExists)
      (λ _. pick_by Stays (leb most_groups (length l.groups)) (refuses l MostGroups) _ (λ _ _. refl) (λ _ h. answered h)) (λ _ _. refl))
  ledger_stays k (Stream.destroy_group name) = ruled_stays (name_refusal name) (on_destroy name (Groups.find_group name l.groups) l) (by (Groups.find_group name l.groups))
    where
      by : (o : Option Group) → Stays (on_destroy name o l)
      by None = λ _. refl
      by (Some g) = λ h. answered h
  ledger_stays k (Stream.asks q) = λ _. refl
  ledger_stays k (Stream.in_group name c) =
      ruled_stays (request_refusal name c) (in_ledger l c (Groups.find_group name l.groups)) (by (Groups.find_group name l.groups) refl)
    where
      by : (o : Option Group) → Groups.find_group name l.groups ≡ o → Stays (in_ledger l c o)
      by None e = λ _. refl
      by (Some g) e =
          λ h. ap (λ (x : Group). with_groups l (Groups.put_group x l.groups)) (group_stays c l.messages g h)
          ∙ ap (with_groups l) (put_found_same name g l.last l.groups k e)
