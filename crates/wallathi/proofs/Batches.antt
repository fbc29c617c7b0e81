-- Batch reading among calls (02, CR 1): an accepted batch is so many single reads, which leave the same bytes. Assumes nothing.
use mathlib.Core.Path.{◌≡◌, refl, sym, ap, ap₂, ◌∙◌, subst}
use mathlib.Core.Bool.{true, false}
use mathlib.Core.List.{List, [], ◌∷◌, ◌++◌, map}
use Rattle.std.proofs.Common.{Option, Some, None, option_map}
use Prim.Native.Nat.{ℕ, ◌-◌, ◌*◌, min}
use native.Mathlib.Omega.{arith}
use lib.Dec.{leb}
use lib.ListN.{length, drop, replicate}
use Rattle.refusal.specs.declared.Refusal.{Refusal}
use Rattle.refusal.proofs.Laws.{number_some}
use Rattle.refusal.specs.declared.Refusal.TheVariants.{MostConsumers, MostPending}
use Rattle.octets.proofs.Laws.{pick_by, pick_same, some_is}
use Rattle.id.specs.declared.Id.{Id}
use Rattle.node.specs.Message.{Message}
use Rattle.node.specs.Step.{first_after}
use Rattle.groups.specs.Group.{Group, most_pending}
use Rattle.groups.specs.Step.{lacks_consumer, find_group}
use Rattle.state.specs.Layout.{index_area}
use Rattle.stream.specs.Ledger.{Ledger, is_ledger}
use Rattle.stream.specs.Cut.{Node, Model, model_of, ledger_of}
use Rattle.stream.specs.Command as Stream
use Rattle.stream.specs.Command.{GroupCommand, group_read, group_read_many, set_up, in_group, Answer, refused, given, code_of, is_refusal}
use Rattle.stream.specs.LedgerStep.{Beside, GroupStep, leaves, delivers, ids_after, batch, ids_bytes, request_refusal, in_ledger, ruled, ledger_step}
use Rattle.stream.specs.Step.{step, beside_of}
use Rattle.stream.specs.Run.{run, answers}
use Rattle.stream.specs.Promise.{Lent, held_by, slots_of, tail_of, Shows, FollowsBy}
use Rattle.stream.proofs.Laws.{model_ledger, image_laid, length_ids, many_by, turn_of, many_singles}
use Rattle.wallathi.specs.Export.{Seen, seen, tell_to}
use Rattle.wallathi.specs.Run.{Call, plain, Meets, Made, made_none, made_more}
use Rattle.wallathi.specs.Demands.{Kept, kept, fresh, model_by, plain_call, kept_after, seen_of, ledger_by, SeenAt, read_many, single_reads, seen_ids, ReadsMany, InPlace}
use Rattle.wallathi.proofs.Runs.{held_rules, Stands, stepped, ran, made_bytes, whole, at, made_length}
use Rattle.wallathi.proofs.Joins.{cut_same, answers_at, run_instead, answers_instead}
use Rattle.wallathi.proofs.Saves.{put_first}
use Rattle.wallathi.proofs.OneImage.{one_image}

-- 0 is no refusal's number
abbrev Numbered : Answer → Type 0
Numbered a = code_of a ≡ 0 → is_refusal a ≡ false

abbrev OfGroup : GroupStep → Type 0
OfGroup s = Numbered s.answer

module _ (name consumer : List ℕ) (time n room : ℕ) where
  numbered : (b : Beside) (l : Ledger) → Numbered (ledger_step b (in_group name (group_read_many consumer time n room)) l).answer
  numbered b l = by (request_refusal name (group_read_many consumer time n room)) refl (find_group name l.groups)
    where
      single : (g : Group) (o : Option Message) → OfGroup (delivers consumer time o g)
      single g None = λ _. refl
      single g (Some x) =
          pick_by OfGroup (lacks_consumer consumer g) (leaves (refused MostConsumers) g) _ (λ _ z. absurd (omega arith))
          (λ _. pick_by OfGroup (leb most_pending (length g.pending)) (leaves (refused MostPending) g) _ (λ _ z. absurd (omega arith)) (λ _ _. refl))

      by : (o : Option Refusal) → request_refusal name (group_read_many consumer time n room) ≡ o → (f : Option Group)
          → Numbered (ruled o l (in_ledger l (group_read_many consumer time n room) f)).answer
      by (Some k) r f = λ z. absurd (let h = number_some k in omega arith)
      by None r None = λ z. absurd (omega arith)
      by None r (Some g) =
          many_by OfGroup consumer time n room l.messages g (single g (first_after g.delivered l.messages)) (λ _ _. refl)

-- a command on a group leaves the nodes
nodes_stay : (slots : ℕ) (name : List ℕ) (c : GroupCommand) (m : Model) → (step slots (in_group name c) m).after.nodes ≡ m.nodes
unfolding step
nodes_stay slots name c m = pick_same (is_refusal (ledger_step (beside_of slots (in_group name c) m) (in_group name c) (ledger_of m)).answer) m.nodes

module _ (name consumer : List ℕ) (time : ℕ) where
  abbrev read : Stream.Command
  read = in_group name (group_read consumer time)

  -- single reads as calls
  record Called (slots : ℕ) (b : Beside) (olds is : List Id) (l : Ledger) (ns : List Node) : Type 0 where
    sees : answers (plain_call slots) (single_reads name consumer time olds) (kept l ns) ≡ seen_ids is
    left : run (plain_call slots) (single_reads name consumer time olds) (kept l ns) ≡ kept (run (turn_of b) (replicate (length is) read) l) ns

  called : (slots : ℕ) (b : Beside) (olds is : List Id) (l : Ledger) (ns : List Node) → length olds ≡ length is
      → answers (turn_of b) (replicate (length is) read) l ≡ map given is → Called slots b olds is l ns
  unfolding run answers
  called slots b [] [] l ns z e = record { sees = refl; left = refl }
  called slots b [] (i ∷ is) l ns z e = absurd (omega arith)
  called slots b (o ∷ olds) [] l ns z e = absurd (omega arith)
  called slots b (o ∷ olds) (i ∷ is) l ns z e =
      let t = ledger_step b read l in
      let p : t.answer ≡ given i = cc in
      let q : answers (turn_of b) (replicate (length is) read) t.after ≡ map given is = cc in
      let r = called slots b olds is t.after ns (omega arith) q in
      let cs : List Call = single_reads name consumer time olds in
      let k : (plain_call slots (plain read (o.ms ∷ (o.seq ∷ []))) (kept l ns)).after ≡ kept t.after ns =
      ap (kept t.after) (nodes_stay slots name (group_read consumer time) (model_of ns l)) in
      record {
        sees =
            ap₂ (λ (a : Answer) (h : Kept). tell_to (o.ms ∷ (o.seq ∷ [])) [] a ∷ answers (plain_call slots) cs h) p k
            ∙ ap (λ (xs : List Seen). seen 0 (i.ms ∷ (i.seq ∷ [])) [] ∷ xs) r.sees;
        left = ap (run (plain_call slots) cs) k ∙ r.left;
      }

  -- they leave the index's record
  index_stays : (olds : List Id) {i k : Lent} {ss : List Seen} (m : Model) → held_by i ≡ Some m → Made (single_reads name consumer time olds) i ss k
      → index_area k.state ≡ index_area i.state
  index_stays [] m e made_none = refl
  index_stays (o ∷ olds) m e (made_more {i = i} {j = j} {s = s} x r) =
      let tell : Answer → Seen = tell_to (o.ms ∷ (o.seq ∷ [])) [] in
      let d : Shows tell (step (slots_of i) read m) m i s j = subst (λ (h : Option Model). FollowsBy tell read h i s j) e x.does in
      index_stays olds (step (slots_of i) read m).after d.holds r
      ∙ d.index_kept (nodes_stay (slots_of i) name (group_read consumer time) m)

-- a batch that is accepted, on ledger and cut
module _ (slots : ℕ) (h : Kept) (name consumer : List ℕ) (time n len : ℕ) (out : List ℕ) where
  record Batch : Type 0 where
    group : Group
    ids : List Id
    found : find_group name h.ledger.groups ≡ Some group
    smallest : length ids ≡ min n (min (length (ids_after group.delivered h.ledger.messages)) (most_pending - length group.pending))
    sees : (plain_call slots (read_many name consumer time n len out) h).answer ≡ seen 0 (16 * length ids ∷ []) (ids_bytes ids ++ drop (16 * length ids) out)
    singles : (olds : List Id) → length olds ≡ length ids → answers (plain_call slots) (single_reads name consumer time olds) h ≡ seen_ids ids
    left : (olds : List Id) → length olds ≡ length ids
        → run (plain_call slots) (single_reads name consumer time olds) h ≡ (plain_call slots (read_many name consumer time n len out) h).after

  batched : is_ledger h.ledger ≡ true → (plain_call slots (read_many name consumer time n len out) h).answer.code ≡ 0 → Batch
  batched e z =
      let b : Beside = beside_of slots (in_group name (group_read_many consumer time n (length out))) (model_by h) in
      let x = many_singles b h.ledger e name consumer time n (length out) (numbered name consumer time n (length out) b h.ledger z) in
      let ids : List Id = batch n h.ledger.messages x.group in
      let y : (olds : List Id) → length olds ≡ length ids → Called name consumer time slots b olds ids h.ledger h.cut =
      (λ olds z. called name consumer time slots b olds ids h.ledger h.cut z x.told) in
      record {
        group = x.group;
        ids = ids;
        found = x.found;
        smallest = x.count;
        sees = ap (tell_to (len ∷ []) out) x.answer_is ∙ ap (seen 0 (length (ids_bytes ids) ∷ [])) (put_first out (ids_bytes ids))
            ∙ ap (λ (k : ℕ). seen 0 (k ∷ []) (ids_bytes ids ++ drop k out)) (length_ids ids);
        singles = λ olds z. (y olds z).sees;
        left = λ olds z. (y olds z).left ∙ ap₂ kept x.left (sym (nodes_stay slots name (group_read_many consumer time n (length out)) (model_by h)));
      }

-- on a store that holds the model m: what single reads leave is, where there are none, the same store, else bytes that hold one model
module _ (i j : Lent) (s : Seen) (name consumer : List ℕ) (time n len : ℕ) (out : List ℕ) (m : Model) (h : held_by i ≡ Some m)
    (d : Meets (read_many name consumer time n len out) i s j) where
  shows : Shows (tell_to (len ∷ []) out) (step (slots_of i) (in_group name (group_read_many consumer time n (length out))) m) m i s j
  shows = subst (λ (o : Option Model). FollowsBy (tell_to (len ∷ []) out) (in_group name (group_read_many consumer time n (length out))) o i s j) h d.does

  same_left : (olds : List Id) {ss : List Seen} {k : Lent} → Made (single_reads name consumer time olds) i ss k → held_by k ≡ held_by j
      → length k.store ≡ length i.store → tail_of k ≡ tail_of i → index_area k.state ≡ index_area i.state → k ≡ j
  same_left [] made_none e q t a = sym (shows.kept (ap ledger_of (some_is (sym shows.holds ∙ sym e ∙ h))))
  same_left (o ∷ olds) (made_more {k = k} y r) e q t a =
      let x = shows in
      let left : Model = (step (slots_of i) (in_group name (group_read_many consumer time n (length out))) m).after in
      let b = made_bytes r y.bytes in
      let c = d.bytes in
      one_image k j left (image_laid k.store k.state left b.store b.state (e ∙ x.holds)) (image_laid j.store j.state left c.store c.state x.holds)
      (q ∙ sym x.size_kept) (t ∙ sym x.tail_kept) (a ∙ sym (x.index_kept (nodes_stay (slots_of i) name (group_read_many consumer time n (length out)) m)))

  on_model : s.code ≡ 0 → ReadsMany name consumer time n out (ledger_of m) i s j
  on_model z =
      let k₀ : Kept = kept (ledger_of m) m.nodes in
      let st : Stands (slots_of i) i k₀ = record { slots_are = refl; holds = h; ledger_is = refl } in
      let p = stepped (read_many name consumer time n len out) d st in
      let x = batched (slots_of i) k₀ name consumer time n len out (model_ledger (slots_of i) m (held_rules i m h)) (sym (ap (λ (t : Seen). t.code) p.sees) ∙ z) in
      record {
        group = x.group;
        ids = x.ids;
        found = x.found;
        smallest = x.smallest;
        sees = p.sees ∙ x.sees;
        singles = λ olds ss k q r.
            let w = ran r st in
            let e : held_by k ≡ held_by j = w.stands.holds ∙ ap (λ (y : Kept). Some (model_by y)) (x.left olds q) ∙ sym p.stands.holds in
            (w.sees ∙ x.singles olds q, same_left olds r e w.size_kept w.tail_kept (index_stays name consumer time olds m h r));
      }

pub batch_exact : (i j : Lent) (s : Seen) (name consumer : List ℕ) (time n len : ℕ) (out : List ℕ) (l : Ledger)
    → Meets (read_many name consumer time n len out) i s j → ledger_by i ≡ Some l → s.code ≡ 0 → ReadsMany name consumer time n out l i s j
batch_exact i j s name consumer time n len out l d e z = by (held_by i) refl e
  where
    by : (o : Option Model) → held_by i ≡ o → option_map ledger_of o ≡ Some l → ReadsMany name consumer time n out l i s j
    by None h e = absurd (let z : ◌≡◌ {A = ℕ} 0 1 = cc in omega arith)
    by (Some m) h e = subst (λ (l : Ledger). ReadsMany name consumer time n out l i s j) (some_is e) (on_model i j s name consumer time n len out m h d z)

-- a batch after the calls cs, and single reads in its place
module _ (slots : ℕ) (cs ds : List Call) (name consumer : List ℕ) (time n len : ℕ) (out : List ℕ) (x : Seen) (olds : List Id)
    (b : Batch slots (kept_after slots cs) name consumer time n len out) (e : x ≡ (plain_call slots (read_many name consumer time n len out) (kept_after slots cs)).answer)
    (v : x.values ≡ 16 * length olds ∷ []) where
  as_many : length olds ≡ length b.ids
  as_many =
      let w : 16 * length olds ∷ [] ≡ 16 * length b.ids ∷ [] = sym v ∙ ap (λ (x : Seen). x.values) (e ∙ b.sees) in
      let u : 16 * length olds ≡ 16 * length b.ids = cc in
      omega arith

  in_place : {first later : List Seen} → first ≡ seen_of slots cs
      → later ≡ answers (plain_call slots) ds (plain_call slots (read_many name consumer time n len out) (kept_after slots cs)).after
      → InPlace out x first later (seen_of slots (cs ++ (single_reads name consumer time olds ++ ds)))
  in_place {first} {later} p q =
      record {
        ids = b.ids;
        sees = e ∙ b.sees;
        seen_are = answers_instead (plain_call slots) cs (read_many name consumer time n len out) ds fresh (single_reads name consumer time olds) (b.left olds as_many)
            ∙ ap₂ (λ (us ws : List Seen). us ++ (answers (plain_call slots) (single_reads name consumer time olds) (kept_after slots cs) ++ ws)) (sym p) (sym q)
            ∙ ap (λ (us : List Seen). first ++ (us ++ later)) (b.singles olds as_many);
      }

  same_kept : kept_after slots (cs ++ (read_many name consumer time n len out ∷ ds)) ≡ kept_after slots (cs ++ (single_reads name consumer time olds ++ ds))
  same_kept = run_instead (plain_call slots) cs (read_many name consumer time n len out) ds fresh (single_reads name consumer time olds) (b.left olds as_many)

-- what is seen of the call after cs, and before and after it
module _ (slots : ℕ) (cs : List Call) (c : Call) (ds : List Call) {x : Seen} {ss : List Seen} (p : SeenAt cs x ss) (e : ss ≡ seen_of slots (cs ++ (c ∷ ds)))
    (n : length (seen_of slots cs) ≡ length cs) where
  record There : Type 0 where
    first_is : p.first ≡ seen_of slots cs
    here_is : x ≡ (plain_call slots c (kept_after slots cs)).answer
    later_is : p.later ≡ answers (plain_call slots) ds (plain_call slots c (kept_after slots cs)).after

  there : There
  there =
      let r = cut_same p.first (x ∷ p.later) (seen_of slots cs) _ (sym p.seen_are ∙ e ∙ answers_at (plain_call slots) cs c ds fresh) (p.as_many ∙ sym n) in
      let q = r.1 in
      record { first_is = r.0; here_is = cc; later_is = cc }

pub batch_in_list : (cs ds : List Call) (i j k l : Lent) (ss ts : List Seen) (i₀ j₀ : Lent) (s t x : Seen) (name consumer : List ℕ) (time n len : ℕ) (out : List ℕ) (olds : List Id)
    → slots_of i₀ ≡ slots_of j₀ → Meets (plain set_up []) i₀ s i → s.code ≡ 0 → Made (cs ++ (read_many name consumer time n len out ∷ ds)) i ss k
    → Meets (plain set_up []) j₀ t j → t.code ≡ 0 → Made (cs ++ (single_reads name consumer time olds ++ ds)) j ts l
    → (p : SeenAt cs x ss) → x.code ≡ 0 → x.values ≡ 16 * length olds ∷ [] → InPlace out x p.first p.later ts × (held_by k ≡ held_by l)
batch_in_list cs ds i j k l ss ts i₀ j₀ s t x name consumer time n len out olds q d e m f g o p z v =
    let slots : ℕ = slots_of i₀ in
    let a = at cs m in
    let w = whole i₀ s d e a.made in
    let u = whole i₀ s d e m in
    let y = whole j₀ t f g o in
    let r = there slots cs (read_many name consumer time n len out) ds p u.sees (ap length (sym w.sees) ∙ made_length a.made) in
    let k₀ : ledger_of (model_by (kept_after slots cs)) ≡ (kept_after slots cs).ledger = some_is (sym (ap (option_map ledger_of) w.holds) ∙ w.ledger_is) in
    let b = batched slots (kept_after slots cs) name consumer time n len out (ap is_ledger (sym k₀) ∙ model_ledger slots (model_by (kept_after slots cs)) w.rules) (ap (λ (x : Seen). x.code) (sym r.here_is) ∙ z) in
    let cs' : List Call = cs ++ (single_reads name consumer time olds ++ ds) in (
      subst (InPlace out x p.first p.later) (sym (y.sees ∙ ap (λ (n : ℕ). seen_of n cs') (sym q)))
          (in_place slots cs ds name consumer time n len out x olds b r.here_is v r.first_is r.later_is),
      u.holds ∙ ap (λ (h : Kept). Some (model_by h)) (same_kept slots cs ds name consumer time n len out x olds b r.here_is v)
          ∙ ap (λ (n : ℕ). Some (model_by (kept_after n cs'))) q ∙ sym y.holds,
    )
