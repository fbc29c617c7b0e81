-- Whole lists of calls: each call is the plain ledger's turn with the cut beside it, and so is the list. Assumes nothing.
use mathlib.Core.Path.{◌≡◌, refl, sym, ap, ap₂, ◌∙◌, subst}
use mathlib.Core.Bool.{Bool, true, false}
use mathlib.Core.List.{List, [], ◌∷◌, ◌++◌}
use Rattle.std.proofs.Common.{Option, Some, option_map}
use Prim.Native.Nat.{ℕ, suc}
use native.Mathlib.Omega.{arith}
use lib.Dec.{eqb}
use lib.ListN.{length}
use Rattle.octets.proofs.Laws.{needed, answered, some_is}
use Rattle.groups.specs.Area.{parse_area}
use Rattle.state.specs.Layout.{state_size, last_in, index_in, groups_area}
use Rattle.stream.specs.Ledger.{Ledger, empty_ledger, with_last, with_groups}
use Rattle.node.specs.Message.{live_in}
use Rattle.stream.specs.Cut.{Model, model_of, entries_of, ledger_of, is_model, slots_in}
use Rattle.stream.specs.Command.{Answer, set_up}
use Rattle.stream.specs.Image.{nodes_of, free_zero, image_from, image_of}
use Rattle.stream.specs.Run.{Turn, run, answers}
use Rattle.stream.specs.Promise.{Lent, held_by, slots_of, tail_of, SetsUpBy}
use Rattle.stream.proofs.Laws.{image_laid, Alone, one_answer, first_seven, second_seven}
use Rattle.snapshot.specs.Command.{Command, step_of, turn}
use Rattle.snapshot.specs.Ledger.{ledger_turn, beside_turn}
use Rattle.snapshot.proofs.Laws.{turn_answer, turn_ledger, turn_alone}
use Rattle.wallathi.specs.Export.{Seen, tell_to}
use Rattle.wallathi.specs.Run.{Call, plain, command_of, AreBytes, Meets, Made, made_none, made_more}
use Rattle.wallathi.specs.Demands as demands
use Rattle.wallathi.specs.Demands.{Kept, fresh, model_by, plain_call, kept_after, seen_of, AsLedger, OneAnswer}
use Rattle.wallathi.proofs.Turns.{does_turn}

-- what is held keeps every rule
pub held_rules : (i : Lent) (m : Model) → held_by i ≡ Some m → is_model (slots_of i) m ≡ true
unfolding image_of image_from
held_rules i m e =
    let slots : ℕ = slots_of i in
    needed (eqb (length i.state) state_size) _ e λ p e. answered (index_in i.state) _ e λ es q e.
    answered (nodes_of i.store es) _ e λ ns r e. needed (free_zero slots i.store ns) _ e λ z e.
    answered (parse_area (last_in i.state) (groups_area i.state)) _ e λ gs g e.
    needed (is_model slots (model_of ns (with_groups (with_last empty_ledger (last_in i.state)) gs))) _ e λ k e.
    subst (λ (x : Model). is_model slots x ≡ true) (some_is e) k

-- a store of so many slots that holds ledger and cut
pub record Stands (slots : ℕ) (i : Lent) (k : Kept) : Type 0 where
  pub slots_are : slots_of i ≡ slots
  pub holds : held_by i ≡ Some (model_by k)
  pub ledger_is : ledger_of (model_by k) ≡ k.ledger

-- one call from there
pub record Stepped (slots : ℕ) (c : Call) (k : Kept) (i : Lent) (s : Seen) (j : Lent) : Type 0 where
  pub sees : s ≡ (plain_call slots c k).answer
  pub stands : Stands slots j (plain_call slots c k).after
  pub size_kept : length j.store ≡ length i.store
  pub tail_kept : tail_of j ≡ tail_of i

pub stepped : {slots : ℕ} {k : Kept} {i j : Lent} {s : Seen} (c : Call) → Meets c i s j → Stands slots i k → Stepped slots c k i s j
stepped {slots} {k} {i} {j} {s} c x h =
    let tell : Answer → Seen = tell_to c.values c.output in
    let d : Command = command_of c in
    let m : Model = model_by k in
    let n : Model = (step_of slots d m).after in
    let t = does_turn tell i j s d x.does in
    let e : is_model slots m ≡ true = ap (λ (n : ℕ). is_model n m) (sym h.slots_are) ∙ held_rules i m h.holds in
    let q : turn (slots_of i) d (held_by i) ≡ turn slots d (Some m) = ap₂ (λ (n : ℕ) (o : Option Model). turn n d o) h.slots_are h.holds in
    let l : ledger_of n ≡ (ledger_turn (beside_turn slots d m) d k.ledger).after =
    turn_ledger slots d m e ∙ ap (λ (x : Ledger). (ledger_turn (beside_turn slots d m) d x).after) h.ledger_is in
    record {
      sees =
          t.told_is ∙ ap (λ (x : Turn Answer (Option Model)). tell x.answer) q ∙ ap tell (turn_answer slots d m)
          ∙ ap (λ (x : Ledger). tell (ledger_turn (beside_turn slots d m) d x).answer) h.ledger_is;
      stands = record {
        slots_are = ap slots_in t.size_kept ∙ h.slots_are;
        holds = t.held_is ∙ ap (λ (x : Turn Answer (Option Model)). x.after) q ∙ ap (λ (x : Ledger). Some (model_of n.nodes x)) l;
        ledger_is = ap (λ (x : Ledger). ledger_of (model_of n.nodes x)) (sym l) ∙ l;
      };
      size_kept = t.size_kept;
      tail_kept = t.tail_kept;
    }

-- a list of calls from there
pub record Ran (slots : ℕ) (cs : List Call) (k : Kept) (i : Lent) (ss : List Seen) (j : Lent) : Type 0 where
  pub sees : ss ≡ answers (plain_call slots) cs k
  pub stands : Stands slots j (run (plain_call slots) cs k)
  pub size_kept : length j.store ≡ length i.store
  pub tail_kept : tail_of j ≡ tail_of i

pub ran : {slots : ℕ} {cs : List Call} {k : Kept} {i j : Lent} {ss : List Seen} → Made cs i ss j → Stands slots i k → Ran slots cs k i ss j
unfolding run answers
ran made_none h = record { sees = refl; stands = h; size_kept = refl; tail_kept = refl }
ran (made_more {c} {cs} {i} {j} {k} {s} {ss} m r) h =
    let p = stepped c m h in
    let q = ran r p.stands in
    record {
      sees = ap₂ (λ (x : Seen) (xs : List Seen). x ∷ xs) p.sees q.sees;
      stands = q.stands;
      size_kept = q.size_kept ∙ p.size_kept;
      tail_kept = q.tail_kept ∙ p.tail_kept;
    }

-- a fresh store
record Begun (i j : Lent) : Type 0 where
  stands : Stands (slots_of i) j fresh
  size_kept : length j.store ≡ length i.store
  tail_kept : tail_of j ≡ tail_of i

begun : (i j : Lent) (s : Seen) → Meets (plain set_up []) i s j → s.code ≡ 0 → Begun i j
unfolding entries_of live_in
begun i j s d e = by (eqb (slots_of i) 0) d.does
  where
    by : (b : Bool) → SetsUpBy (tell_to [] []) b i s j → Begun i j
    by true d = absurd (let z : 1 ≡ 0 = sym (ap (λ (x : Seen). x.code) d.0) ∙ e in omega arith)
    by false d =
        record {
          stands = record { slots_are = ap slots_in d.size_kept; holds = d.holds; ledger_is = refl };
          size_kept = d.size_kept;
          tail_kept = d.tail_kept;
        }

-- what is left is bytes
pub made_bytes : {cs : List Call} {i k : Lent} {ss : List Seen} → Made cs i ss k → AreBytes i → AreBytes k
made_bytes made_none b = b
made_bytes (made_more m r) b = made_bytes r m.bytes

pub whole : {cs : List Call} {i k : Lent} {ss : List Seen} (i₀ : Lent) (s : Seen) → Meets (plain set_up []) i₀ s i → s.code ≡ 0 → Made cs i ss k → AsLedger i₀ cs ss k
whole {cs} {i} {k} {ss} i₀ s d e m =
    let b = begun i₀ i s d e in
    let r = ran m b.stands in
    let x : Kept = run (plain_call (slots_of i₀)) cs fresh in
    let y = made_bytes m d.bytes in
    record {
      sees = r.sees;
      holds = r.stands.holds;
      ledger_is = ap (option_map ledger_of) r.stands.holds ∙ ap Some r.stands.ledger_is;
      rules = ap (λ (n : ℕ). is_model n (model_by x)) (sym r.stands.slots_are) ∙ held_rules k (model_by x) r.stands.holds;
      bytes = y;
      laid = image_laid k.store k.state (model_by x) y.store y.state r.stands.holds;
      size_kept = r.size_kept ∙ b.size_kept;
      tail_kept = r.tail_kept ∙ b.tail_kept;
    }

-- one call on two stores that hold one ledger
pub alone : {j l : Lent} {s t : Seen} (c : Call) (i k : Lent) (m n : Model) → Meets c i s j → Meets c k t l → held_by i ≡ Some m → held_by k ≡ Some n
    → slots_of i ≡ slots_of k → ledger_of m ≡ ledger_of n → OneAnswer s j t l
alone {j} {l} {s} {t} c i k m n p q e f z g =
    let tell : Answer → Seen = tell_to c.values c.output in
    let d : Command = command_of c in
    let a = does_turn tell i j s d p.does in
    let b = does_turn tell k l t d q.does in
    let u : turn (slots_of i) d (held_by i) ≡ turn (slots_of i) d (Some m) = ap (turn (slots_of i) d) e in
    let v : turn (slots_of k) d (held_by k) ≡ turn (slots_of i) d (Some n) = ap₂ (λ (x : ℕ) (o : Option Model). turn x d o) (sym z) f in
    by
    (a.told_is ∙ ap (λ (x : Turn Answer (Option Model)). tell x.answer) u) (b.told_is ∙ ap (λ (x : Turn Answer (Option Model)). tell x.answer) v)
    (a.held_is ∙ ap (λ (x : Turn Answer (Option Model)). x.after) u) (b.held_is ∙ ap (λ (x : Turn Answer (Option Model)). x.after) v)
    (turn_alone (slots_of i) d m n (held_rules i m e) (ap (λ (x : ℕ). is_model x n) z ∙ held_rules k n f) g)
  where
    by : s ≡ tell_to c.values c.output (step_of (slots_of i) (command_of c) m).answer → t ≡ tell_to c.values c.output (step_of (slots_of i) (command_of c) n).answer
        → held_by j ≡ Some (step_of (slots_of i) (command_of c) m).after → held_by l ≡ Some (step_of (slots_of i) (command_of c) n).after
        → Alone (step_of (slots_of i) (command_of c) m) (step_of (slots_of i) (command_of c) n) → OneAnswer s j t l
    by a b h o (one_answer x y) =
        demands.one_answer (a ∙ ap (tell_to c.values c.output) x ∙ sym b) (ap (option_map ledger_of) h ∙ ap Some y ∙ sym (ap (option_map ledger_of) o))
    by a b h o (first_seven x) = demands.first_seven (ap (λ (y : Seen). y.code) (a ∙ ap (tell_to c.values c.output) x))
    by a b h o (second_seven x) = demands.second_seven (ap (λ (y : Seen). y.code) (b ∙ ap (tell_to c.values c.output) x))

-- one list on two stores of equally many slots
pub alike : {cs : List Call} {i j k l : Lent} {ss ts : List Seen} (i₀ j₀ : Lent) (s t : Seen) → slots_of i₀ ≡ slots_of j₀ → Meets (plain set_up []) i₀ s i
    → s.code ≡ 0 → Made cs i ss k → Meets (plain set_up []) j₀ t j → t.code ≡ 0 → Made cs j ts l → (ss ≡ ts) × (held_by k ≡ held_by l)
alike {cs} i₀ j₀ s t n d e m f g o =
    let a = whole i₀ s d e m in
    let b = whole j₀ t f g o in (
      a.sees ∙ ap (λ (x : ℕ). seen_of x cs) n ∙ sym b.sees,
      a.holds ∙ ap (λ (x : ℕ). Some (model_by (kept_after x cs))) n ∙ sym b.holds,
    )

-- one call in the middle of a list
pub record At (cs : List Call) (c : Call) (ds : List Call) (i : Lent) (ss : List Seen) (k : Lent) : Type 0 where
  pub before : Lent
  pub after : Lent
  pub first : List Seen
  pub here : Seen
  pub later : List Seen
  pub seen_are : ss ≡ first ++ (here ∷ later)
  pub made : Made cs i first before
  pub meets : Meets c before here after
  pub rest : Made ds after later k

pub at : (cs : List Call) {c : Call} {ds : List Call} {i k : Lent} {ss : List Seen} → Made (cs ++ (c ∷ ds)) i ss k → At cs c ds i ss k
at [] (made_more {c} {cs} {i} {j} {k} {s} {ss} m r) =
    record { before = i; after = j; first = []; here = s; later = ss; seen_are = refl; made = made_none; meets = m; rest = r }
at (b ∷ cs) (made_more {s = s} m r) =
    let a = at cs r in
    record {
      before = a.before;
      after = a.after;
      first = s ∷ a.first;
      here = a.here;
      later = a.later;
      seen_are = ap (λ (xs : List Seen). s ∷ xs) a.seen_are;
      made = made_more m a.made;
      meets = a.meets;
      rest = a.rest;
    }

pub made_length : {cs : List Call} {i k : Lent} {ss : List Seen} → Made cs i ss k → length ss ≡ length cs
made_length made_none = refl
made_length (made_more m r) = ap suc (made_length r)
