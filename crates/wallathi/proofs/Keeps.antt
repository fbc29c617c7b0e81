-- A command on a model that keeps the rules leaves the model as it is, or other groups, or other messages in a model that keeps them.
-- Assumes nothing.
use mathlib.Core.Path.{◌≡◌, refl, sym, ap, ◌∙◌, subst}
use mathlib.Core.Bool.{Bool, true, false}
use mathlib.Core.List.{List, [], ◌∷◌}
use Prim.Native.Nat.{ℕ, ◌-◌, ◌^◌, ◌≤◌, ◌<◌}
use native.Mathlib.Omega.{arith}
use lib.Dec.{leb}
use lib.ListN.{length}
use borrow.Author.Tests.{leb-true, leb-false}
use Rattle.std.proofs.Common.{is_none, Option, Some, None}
use Rattle.refusal.specs.declared.Refusal.{Refusal}
use Rattle.refusal.specs.declared.Refusal.TheVariants.{BadArgument, LowId, NoIdLeft, LongMessage, Full, NoGroup, GroupExists, MostGroups, MostConsumers, MostPending}
use Rattle.octets.specs.Bytes.{Bytes}
use Rattle.octets.specs.Compare.{same}
use Rattle.octets.proofs.Laws.{never, some_is, same_refl, same_true, pick_by}
use Rattle.id.specs.declared.Id.{Id}
use Rattle.id.specs.Id.{Fits64, least, below}
use Rattle.id.proofs.Laws.{id_fits}
use Rattle.slip.specs.Slip.{parse_slip}
use Rattle.node.specs.Message.{Pair, Message, message}
use Rattle.node.specs.Step.{fits_alone, find_message, first_after, without_message}
use Rattle.groups.specs.Group.{Pending, Group, is_name, most_pending}
use Rattle.groups.specs.Area.{area_bytes, parse_area, is_groups, most_groups}
use Rattle.groups.specs.Step as Groups
use Rattle.groups.specs.Answer.{ids_above, ids_up_to}
use Rattle.groups.proofs.Laws.{area_parse, put_found_same, deliver_groups, acknowledge_groups, claim_groups, drop_groups, create_groups, destroy_groups, deliver_all_groups}
use Rattle.stream.specs.Ledger.{with_messages, messages_above}
use Rattle.stream.specs.Cut.{Node, Model, messages_of, ledger_of, is_model, add_message, lacks_slot, delete_message, delete_oldest}
use Rattle.stream.specs.Command as Stream
use Rattle.stream.specs.Command.{Answer, refused, done, counted}
use Rattle.stream.specs.LedgerStep.{GroupStep, leaves, clock_id, on_create, on_group, on_trim, delivers, batch, acknowledges, claims, name_refusal, batch_refusal, argument_refusal, request_refusal}
use Rattle.stream.specs.Step.{Step, step}
use Rattle.stream.proofs.Laws.{model_rules, model_ledger, ledger_rules, model_delete, model_trim, model_add, renoded, step_of, regrouped, step_refused, step_stays, step_groups, step_goes, step_asks, name_kept, first_kept, second_kept, step_unruled, step_no_group, step_in_group, Adds, adds_by_id, clock_above, add_no_slip, clock_no_slip, add_low, clock_exhausted, add_large, add_full, add_goes, delete_none, trim_none, messages_delete, messages_oldest, messages_add, delete_differs, trim_differs, add_differs, first_facts, length_batch, batch_above, batch_up_to, many_by, consumer_known}
use Rattle.snapshot.specs.Command.{is_set_up}
use Rattle.wallathi.specs.Demands.{PassesGroup, PassesStream}

pub data Outcome (slots : ℕ) (s : Step) (m : Model) : Type 0 where
  stays : s.after ≡ m → Outcome slots s m
  groups_change : (gs : List Group) → s.after ≡ regrouped m gs → is_groups m.last gs ≡ true → (gs ≡ m.groups → ⊥) → Outcome slots s m
  nodes_change : is_model slots s.after ≡ true → (messages_of s.after.nodes ≡ messages_of m.nodes → ⊥) → Outcome slots s m

module _ (slots : ℕ) (m : Model) (e : is_model slots m ≡ true) where
  after_step : (s t : Step) → s ≡ t → Outcome slots t m → Outcome slots s m
  after_step s t q o = subst (λ (x : Step). Outcome slots x m) (sym q) o

  same_model : (s : Step) (a : Answer) → s ≡ step_of a m → Outcome slots s m
  same_model s a q = stays (ap (λ (x : Step). x.after) q)

  -- the groups alone: by their bytes it is known whether they changed
  regroups : (s : Step) (a : Answer) (gs : List Group) → s ≡ step_of a (regrouped m gs) → is_groups m.last gs ≡ true → Outcome slots s m
  regroups s a gs q g = after_step s (step_of a (regrouped m gs)) q (by (same (area_bytes gs) (area_bytes m.groups)) refl)
    where
      differ : same (area_bytes gs) (area_bytes m.groups) ≡ false → gs ≡ m.groups → ⊥
      differ p q =
          never (same_refl (area_bytes m.groups)) (ap (λ (x : List Group). same (area_bytes x) (area_bytes m.groups)) (sym q) ∙ p)

      by : (t : Bool) → same (area_bytes gs) (area_bytes m.groups) ≡ t → Outcome slots (step_of a (regrouped m gs)) m
      by true p =
          let r = model_rules slots m e in
          let z : gs ≡ m.groups =
          some_is (sym (area_parse m.last gs g) ∙ ap (parse_area m.last) (same_true (area_bytes gs) (area_bytes m.groups) p) ∙ area_parse m.last m.groups r.groups_are) in
          stays (ap (regrouped m) z)
      by false p = groups_change gs refl g (differ p)

  -- an add
  adds : (c : Stream.Command) (x : Message) → Adds slots c m x → Outcome slots (step slots c m) m
  adds c x a = by (fits_alone x) refl (lacks_slot slots m.nodes x) refl
    where
      by : (s : Bool) → fits_alone x ≡ s → (t : Bool) → lacks_slot slots m.nodes x ≡ t → Outcome slots (step slots c m) m
      by false f t l = same_model (step slots c m) (refused LongMessage) (add_large slots c m x a f)
      by true f true l = same_model (step slots c m) (refused Full) (add_full slots c m x a f l)
      by true f false l =
          let q = add_goes slots c m x a f l in
          unfold add_message in
          after_step (step slots c m) _ q
          (nodes_change (model_add slots m e x a.is_message_lem f a.above l) (add_differs (renoded m (add_message m.nodes x) x.id) m x (messages_add m.nodes x)))

  add_outcome : (i : Id) (s : List ℕ) → Fits64 i → Bytes s → Outcome slots (step slots (Stream.add i s) m) m
  add_outcome i s f b = by (parse_slip s) refl
    where
      low : (ps : List Pair) → parse_slip s ≡ Some ps → (t : Bool) → below m.last i ≡ t → Outcome slots (step slots (Stream.add i s) m) m
      low ps p true h = adds (Stream.add i s) (message i ps) (adds_by_id slots m i s ps b p f h)
      low ps p false h = same_model (step slots (Stream.add i s) m) (refused LowId) (add_low slots m s i ps p h)

      by : (o : Option (List Pair)) → parse_slip s ≡ o → Outcome slots (step slots (Stream.add i s) m) m
      by None p = same_model (step slots (Stream.add i s) m) (refused BadArgument) (add_no_slip slots m s i p)
      by (Some ps) p = low ps p (below m.last i) refl

  clock_outcome : (time : ℕ) (s : List ℕ) → time < 2 ^ 64 → Bytes s → Outcome slots (step slots (Stream.add_by_clock time s) m) m
  clock_outcome time s t b = by (parse_slip s) refl
    where
      next : (ps : List Pair) → parse_slip s ≡ Some ps → (n : Option Id) → clock_id time m.last ≡ n → Outcome slots (step slots (Stream.add_by_clock time s) m) m
      next ps p None q = same_model (step slots (Stream.add_by_clock time s) m) (refused NoIdLeft) (clock_exhausted slots m s time ps p q)
      next ps p (Some i) q =
          let c = clock_above time m.last i q in
          let f : Fits64 i = c.1 t (id_fits m.last (model_rules slots m e).last_fits) in
          adds (Stream.add_by_clock time s) (message i ps)
          (record { step_is = rw (p, q); full_is = rw (p, q); cut_is = rw (p, q); above = c.0; is_message_lem = (adds_by_id slots m i s ps b p f c.0).is_message_lem })

      by : (o : Option (List Pair)) → parse_slip s ≡ o → Outcome slots (step slots (Stream.add_by_clock time s) m) m
      by None p = same_model (step slots (Stream.add_by_clock time s) m) (refused BadArgument) (clock_no_slip slots m s time p)
      by (Some ps) p = next ps p (clock_id time m.last) refl

  delete_outcome : (i : Id) → Outcome slots (step slots (Stream.delete i) m) m
  delete_outcome i = by (find_message i (messages_of m.nodes)) refl
    where
      by : (o : Option Message) → find_message i (messages_of m.nodes) ≡ o → Outcome slots (step slots (Stream.delete i) m) m
      by None f =
          same_model (step slots (Stream.delete i) m) (counted 0)
          (step_stays slots (Stream.delete i) m (counted 0) (rw f) (delete_none slots i m.nodes (model_rules slots m e).nodes_are f))
      by (Some x) f =
          after_step (step slots (Stream.delete i) m) _
          (step_goes slots (Stream.delete i) m (counted 1) (with_messages (ledger_of m) (without_message i (messages_of m.nodes))) refl (rw f))
          (nodes_change (model_delete slots m e i) (delete_differs (renoded m (delete_message i m.nodes) m.last) m i x (messages_delete least i m.nodes (model_rules slots m e).rising) f))

  trims : (k : ℕ) → step slots (Stream.trim k) m
      ≡ step_of (counted (length (messages_of m.nodes) - k)) (renoded m (delete_oldest (length (messages_of m.nodes) - k) m.nodes) m.last)
  unfolding step on_trim
  trims k = refl

  trim_outcome : (k : ℕ) → Outcome slots (step slots (Stream.trim k) m) m
  trim_outcome k = by (leb (length (messages_of m.nodes)) k) refl
    where
      by : (t : Bool) → leb (length (messages_of m.nodes)) k ≡ t → Outcome slots (step slots (Stream.trim k) m) m
      by true h =
          let l : length (messages_of m.nodes) ≤ k = leb-true (length (messages_of m.nodes)) k h in
          let z : length (messages_of m.nodes) - k ≡ 0 = omega arith in
          same_model (step slots (Stream.trim k) m) (counted 0)
          (trims k ∙ ap (λ (n : ℕ). step_of (counted n) (renoded m (delete_oldest n m.nodes) m.last)) z
          ∙ ap (λ (ns : List Node). step_of (counted 0) (renoded m ns m.last)) (trim_none slots m.nodes (model_rules slots m e).nodes_are))
      by false h =
          let l : k < length (messages_of m.nodes) = leb-false (length (messages_of m.nodes)) k h in
          let gone : ℕ = length (messages_of m.nodes) - k in
          after_step (step slots (Stream.trim k) m) _ (trims k)
          (nodes_change (model_trim slots m e gone) (λ z. trim_differs (renoded m (delete_oldest gone m.nodes) m.last) m gone (messages_oldest gone m.nodes) (omega arith) (omega arith) z))

  -- the groups made and destroyed
  groups_are : is_groups m.last m.groups ≡ true
  groups_are = (model_rules slots m e).groups_are

  create_outcome : (name : List ℕ) (start : Id) → Fits64 start → Outcome slots (step slots (Stream.create_group name start) m) m
  create_outcome name start f = by (is_name name) refl (is_none (Groups.find_group name m.groups)) refl (leb most_groups (length m.groups)) refl
    where
      by : (r : Bool) → is_name name ≡ r → (s : Bool) → is_none (Groups.find_group name m.groups) ≡ s → (t : Bool) → leb most_groups (length m.groups) ≡ t
          → Outcome slots (step slots (Stream.create_group name start) m) m
      by false r s p t q = same_model _ (refused BadArgument) (step_refused slots (Stream.create_group name start) m BadArgument (rw r))
      by true r false p t q = same_model _ (refused GroupExists) (step_refused slots (Stream.create_group name start) m GroupExists (unfold on_create in rw (r, p)))
      by true r true p true q = same_model _ (refused MostGroups) (step_refused slots (Stream.create_group name start) m MostGroups (unfold on_create in rw (r, p, q)))
      by true r true p false q =
          regroups _ done (Groups.put_group (Groups.new_group name start) m.groups)
          (step_groups slots (Stream.create_group name start) m done (Groups.put_group (Groups.new_group name start) m.groups) (unfold on_create in rw (r, p, q)) refl)
          (create_groups m.last m.groups groups_are name start r f (leb-false most_groups (length m.groups) q))

  destroy_outcome : (name : List ℕ) → Outcome slots (step slots (Stream.destroy_group name) m) m
  destroy_outcome name = by (is_name name) refl (Groups.find_group name m.groups) refl
    where
      by : (r : Bool) → is_name name ≡ r → (o : Option Group) → Groups.find_group name m.groups ≡ o → Outcome slots (step slots (Stream.destroy_group name) m) m
      by false r o p = same_model _ (refused BadArgument) (step_refused slots (Stream.destroy_group name) m BadArgument (rw r))
      by true r None p = same_model _ (refused NoGroup) (step_refused slots (Stream.destroy_group name) m NoGroup (rw (r, p)))
      by true r (Some g) p =
          regroups _ done (Groups.without_group name m.groups)
          (step_groups slots (Stream.destroy_group name) m done (Groups.without_group name m.groups) (rw (r, p)) refl) (destroy_groups m.last m.groups groups_are name)

  -- one group
  module _ (name : List ℕ) (g : Group) (f : Groups.find_group name m.groups ≡ Some g) where
    abbrev Keeps : GroupStep → Type 0
    Keeps s = is_groups m.last (Groups.put_group s.after m.groups) ≡ true

    keeps_same : is_groups m.last (Groups.put_group g m.groups) ≡ true
    keeps_same = ap (is_groups m.last) (put_found_same name g m.last m.groups groups_are f) ∙ groups_are

    messages_are : messages_above least m.last (messages_of m.nodes) ≡ true
    messages_are = (ledger_rules (ledger_of m) (model_ledger slots m e)).messages_are

    read_keeps : (consumer : List ℕ) (time : ℕ) → time < 2 ^ 64 → name_refusal consumer ≡ None → Keeps (delivers consumer time (first_after g.delivered (messages_of m.nodes)) g)
    read_keeps consumer time t a = by (first_after g.delivered (messages_of m.nodes)) refl
      where
        by : (o : Option Message) → first_after g.delivered (messages_of m.nodes) ≡ o → Keeps (delivers consumer time o g)
        by None p = keeps_same
        by (Some x) p =
            let y = first_facts g.delivered least m.last (messages_of m.nodes) x messages_are p in
            pick_by Keeps (Groups.lacks_consumer consumer g) (leaves (refused MostConsumers) g) _ (λ _. keeps_same)
            (λ l. pick_by Keeps (leb most_pending (length g.pending)) (leaves (refused MostPending) g) _ (λ _. keeps_same)
            (λ n. deliver_groups m.last m.groups groups_are name g f consumer time x.id (name_kept consumer a) t y.fits y.above y.up_to_lem l (leb-false most_pending (length g.pending) n)))

    -- a batch, where no consumer is lacking if it has an ID
    many_keeps : (consumer : List ℕ) (time n : ℕ) → time < 2 ^ 64 → name_refusal consumer ≡ None
        → (1 ≤ length (batch n (messages_of m.nodes) g) → Groups.lacks_consumer consumer g ≡ false)
        → is_groups m.last (Groups.put_group (Groups.deliver_all consumer time (batch n (messages_of m.nodes) g) g) m.groups) ≡ true
    many_keeps consumer time n t a k = by (batch n (messages_of m.nodes) g) refl
      where
        by : (is : List Id) → batch n (messages_of m.nodes) g ≡ is → is_groups m.last (Groups.put_group (Groups.deliver_all consumer time is g) m.groups) ≡ true
        by [] p = unfold Groups.deliver_all in keeps_same
        by (i ∷ is) p =
            let z = length_batch n (messages_of m.nodes) g in
            let y : length (batch n (messages_of m.nodes) g) ≡ length {A = Id} (i ∷ is) = ap length p in
            deliver_all_groups m.last m.groups groups_are name g f consumer time (i ∷ is) (name_kept consumer a) t
            (ap (ids_above g.delivered) (sym p) ∙ batch_above n (messages_of m.nodes) g least m.last messages_are)
            (ap (ids_up_to m.last) (sym p) ∙ batch_up_to n (messages_of m.nodes) g least m.last messages_are)
            (k (omega arith)) (omega arith)

    group_keeps : (c : Stream.GroupCommand) → PassesGroup c → argument_refusal c ≡ None → Keeps (on_group c (messages_of m.nodes) g)
    group_keeps (Stream.group_read consumer time) t a = read_keeps consumer time t a
    group_keeps (Stream.group_read_many consumer time n room) t a =
        let k : name_refusal consumer ≡ None = first_kept (name_refusal consumer) (batch_refusal n room) a in
        many_by Keeps consumer time n room (messages_of m.nodes) g (read_keeps consumer time t k)
        (λ p. many_keeps consumer time n t k (consumer_known consumer time n (messages_of m.nodes) g p))
    group_keeps (Stream.acknowledge i) t a = by (Groups.find_pending i g.pending)
      where
        by : (o : Option Pending) → Keeps (acknowledges i o g)
        by None = keeps_same
        by (Some p) = acknowledge_groups m.last m.groups groups_are name g f i
    group_keeps (Stream.claim consumer idle i time) t a = by (Groups.find_pending i g.pending) refl
      where
        by : (o : Option Pending) → Groups.find_pending i g.pending ≡ o → Keeps (claims consumer idle time o g)
        by None p = keeps_same
        by (Some x) p =
            pick_by Keeps (leb idle (Groups.idle time x.time)) _ (leaves Stream.not_moved g)
            (λ _. pick_by Keeps (Groups.lacks_consumer consumer g) (leaves (refused MostConsumers) g) _ (λ _. keeps_same) (λ l. claim_groups m.last m.groups groups_are name g f consumer time i x (name_kept consumer a) t p l))
            (λ _. keeps_same)
    group_keeps (Stream.next_pending consumer i) t a = keeps_same
    group_keeps (Stream.drop_consumer consumer) t a = drop_groups m.last m.groups groups_are name g f consumer

  group_outcome : (name : List ℕ) (c : Stream.GroupCommand) → PassesGroup c → Outcome slots (step slots (Stream.in_group name c) m) m
  group_outcome name c t = by (request_refusal name c) refl (Groups.find_group name m.groups) refl
    where
      by : (r : Option Refusal) → request_refusal name c ≡ r → (o : Option Group) → Groups.find_group name m.groups ≡ o → Outcome slots (step slots (Stream.in_group name c) m) m
      by (Some n) r o p = same_model _ (refused n) (step_unruled slots name c m n r)
      by None r None p = same_model _ (refused NoGroup) (step_no_group slots name c m r p)
      by None r (Some g) p =
          let s = on_group c (messages_of m.nodes) g in
          regroups _ s.answer (Groups.put_group s.after m.groups) (step_in_group slots name c m g s.after s.answer r p refl)
          (group_keeps name g p c t (second_kept (name_refusal name) (argument_refusal c) r))

  pub outcome : (c : Stream.Command) → is_set_up c ≡ false → PassesStream c → Outcome slots (step slots c m) m
  outcome Stream.set_up z p = absurd (never refl z)
  outcome (Stream.add i s) z p = add_outcome i s p.0 p.1
  outcome (Stream.add_by_clock time s) z p = clock_outcome time s p.0 p.1
  outcome (Stream.delete i) z p = delete_outcome i
  outcome (Stream.trim k) z p = trim_outcome k
  outcome (Stream.create_group name start) z p = create_outcome name start p
  outcome (Stream.destroy_group name) z p = destroy_outcome name
  outcome (Stream.asks q) z p = same_model _ _ (step_asks slots q m)
  outcome (Stream.in_group name c) z p = group_outcome name c p
