-- A call that answers a number from 1 on keeps every byte; of its out-parameters, but with 35. Assumes nothing.
use mathlib.Core.Path.{◌≡◌, refl, ap, ap₂, ◌∙◌}
use mathlib.Core.Bool.{Bool, true, false}
use mathlib.Core.List.{List}
use Rattle.std.proofs.Common.{Option, Some, None}
use Prim.Native.Nat.{ℕ, ◌≤◌}
use native.Mathlib.Omega.{arith}
use lib.Dec.{eqb}
use Rattle.stream.specs.Cut.{Model, ledger_of}
use Rattle.stream.specs.Command as Stream
use Rattle.stream.specs.Command.{Answer, refused, done, given, counted, written, entry, reported, no_integers, moved, nothing, absent, not_moved, code_of}
use Rattle.stream.specs.Reply.{output_by}
use Rattle.stream.specs.LedgerStep.{ledger_step}
use Rattle.stream.specs.Step.{step, beside_of}
use Rattle.stream.specs.Promise.{Lent, held_by, slots_of, FollowsBy, SetsUpBy}
use Rattle.stream.proofs.Laws.{model_rules, answer_step, ledger_step_lem}
use Rattle.snapshot.specs.Command.{Command, on_stream, save, load, Loading, refusing, loading, loads, is_set_up, turn}
use Rattle.snapshot.specs.Promise.{Does, DoesStream, LoadsBy}
use Rattle.wallathi.specs.Export.{Seen, seen, numbers_of, over, tell_to}
use Rattle.wallathi.specs.Run.{Call, command_of, Meets}
use Rattle.wallathi.specs.Demands.{Refuses}
use Rattle.wallathi.proofs.Runs.{held_rules}
use Rattle.wallathi.proofs.Turns.{does_turn}
use Rattle.wallathi.proofs.Stays.{ledger_stays}

-- with a number from 1 on the output stays, and so do the out-parameters but with 35
refusal_seen : (values output : List ℕ) (a : Answer) → 1 ≤ code_of a
    → (output_by output a ≡ output) × ((code_of a ≡ 35 → ⊥) → over (numbers_of a) values ≡ values)
refusal_seen values output (refused n) h = (refl, λ _. refl)
refusal_seen values output done h = absurd (omega arith)
refusal_seen values output (given i) h = absurd (omega arith)
refusal_seen values output (counted n) h = absurd (omega arith)
refusal_seen values output (written bs) h = absurd (omega arith)
refusal_seen values output (entry p lives) h = absurd (omega arith)
refusal_seen values output (reported l o x) h = absurd (omega arith)
refusal_seen values output (no_integers l o) h = (refl, λ k. absurd (k refl))
refusal_seen values output moved h = absurd (omega arith)
refusal_seen values output nothing h = (refl, λ _. refl)
refusal_seen values output absent h = (refl, λ _. refl)
refusal_seen values output not_moved h = (refl, λ _. refl)

module _ {T : Type 0} (tell : Answer → T) (code : T → ℕ) (same : (a : Answer) → code (tell a) ≡ code_of a) (i j : Lent) (t : T) (h : 1 ≤ code t) where
  not_done : t ≡ tell done → ⊥
  not_done e = let z : code t ≡ 0 = ap code e ∙ same done in omega arith

  sets_up : (b : Bool) → SetsUpBy tell b i t j → j ≡ i
  sets_up true d = d.1
  sets_up false d = absurd (not_done d.told_is)

  follows : (c : Stream.Command) (o : Option Model) → held_by i ≡ o → FollowsBy tell c o i t j → j ≡ i
  follows c None e d = d.1
  follows c (Some m) e d =
      let slots : ℕ = slots_of i in
      let k = held_rules i m e in
      let a : Answer = (ledger_step (beside_of slots c m) c (ledger_of m)).answer in
      let x : code t ≡ code_of a = ap code d.told_is ∙ same (step slots c m).answer ∙ ap code_of (answer_step slots c m) in
      d.kept (ledger_step_lem slots c m k ∙ ledger_stays (beside_of slots c m) (ledger_of m) (model_rules slots m k).groups_are c (omega arith))

  loaded_by : (x : Loading) → LoadsBy tell x i t j → j ≡ i
  loaded_by (refusing n) d = d.1
  loaded_by (loading l) d = absurd (not_done d.told_is)

  stream : (c : Stream.Command) (b : Bool) → DoesStream tell b c i t j → j ≡ i
  stream c true d = sets_up (eqb (slots_of i) 0) d
  stream c false d = follows c (held_by i) refl d

  kept_by : (c : Command) → Does tell c i t j → j ≡ i
  kept_by (on_stream c) d = stream c (is_set_up c) d
  kept_by (save room) d = d.1
  kept_by (load file) d = loaded_by (loads (slots_of i) file) d

pub refused_keeps : (c : Call) (i j : Lent) (s : Seen) → Meets c i s j → 1 ≤ s.code → Refuses c i s j
refused_keeps c i j s d h =
    let tell : Answer → Seen = tell_to c.values c.output in
    let a : Answer = (turn (slots_of i) (command_of c) (held_by i)).answer in
    let e : s ≡ tell a = (does_turn tell i j s (command_of c) d.does).told_is in
    let x : s.code ≡ code_of a = ap (λ (y : Seen). y.code) e in
    let r = refusal_seen c.values c.output a (omega arith) in
    let o : s.output ≡ c.output = ap (λ (y : Seen). y.output) e ∙ r.0 in
    record {
      seen_is = λ k.
          let v : s.values ≡ c.values = ap (λ (y : Seen). y.values) e ∙ r.1 (λ z. k (x ∙ z)) in
          ap₂ (seen s.code) v o;
      output_kept = o;
      kept = kept_by tell (λ (y : Seen). y.code) (λ _. refl) i j s h (command_of c) d.does;
    }
