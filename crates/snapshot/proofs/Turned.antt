-- Every command on a model, save and load among them, is the plain ledger's with the cut beside it; of the answers only refusal 7
-- depends on the cut. Assumes nothing.
use mathlib.Core.Path.{◌≡◌, refl, sym, ap, ◌∙◌}
use mathlib.Core.Bool.{true}
use Prim.Native.Nat.{ℕ}
use Rattle.stream.specs.Ledger.{Ledger}
use Rattle.stream.specs.Cut.{Model, ledger_of, is_model}
use Rattle.stream.specs.LedgerStep.{LedgerStep}
use Rattle.stream.specs.Step.{Step}
use Rattle.stream.proofs.Laws.{ledger_step_lem, answer_step, fresh_ledger, Alone, one_answer, cut_alone}
use Rattle.snapshot.specs.Command.{Command, on_stream, save, load, Loading, refusing, loading, loads, loads_to, step_of}
use Rattle.snapshot.specs.Ledger.{on_load, ledger_turn, beside_turn}

-- a step of a model that answers and leaves as one of the ledger does
record Tells (s : Step) (t : LedgerStep) : Type 0 where
  answer_is : s.answer ≡ t.answer
  ledger_is : ledger_of s.after ≡ t.after

load_tells : (x : Loading) (m : Model) → Tells (loads_to x m) (on_load x (ledger_of m))
load_tells (refusing n) m = record { answer_is = refl; ledger_is = refl }
load_tells (loading l) m = record { answer_is = refl; ledger_is = fresh_ledger l }

module _ (slots : ℕ) (c : Command) (m : Model) where
  pub turn_answer : (step_of slots c m).answer ≡ (ledger_turn (beside_turn slots c m) c (ledger_of m)).answer
  turn_answer = by c
    where
      by : (c : Command) → (step_of slots c m).answer ≡ (ledger_turn (beside_turn slots c m) c (ledger_of m)).answer
      by (on_stream c) = answer_step slots c m
      by (save room) = refl
      by (load file) = (load_tells (loads slots file) m).answer_is

  pub turn_ledger : is_model slots m ≡ true → ledger_of (step_of slots c m).after ≡ (ledger_turn (beside_turn slots c m) c (ledger_of m)).after
  turn_ledger e = by c
    where
      by : (c : Command) → ledger_of (step_of slots c m).after ≡ (ledger_turn (beside_turn slots c m) c (ledger_of m)).after
      by (on_stream c) = ledger_step_lem slots c m e
      by (save room) = refl
      by (load file) = (load_tells (loads slots file) m).ledger_is

-- two models of one ledger
pub turn_alone : (slots : ℕ) (c : Command) (m n : Model) → is_model slots m ≡ true → is_model slots n ≡ true → ledger_of m ≡ ledger_of n
    → Alone (step_of slots c m) (step_of slots c n)
turn_alone slots (on_stream c) m n e f l = cut_alone slots c m n e f l
turn_alone slots (save room) m n e f l =
    one_answer (turn_answer slots (save room) m ∙ ap (λ (k : Ledger). (ledger_turn (beside_turn slots (save room) m) (save room) k).answer) l) l
turn_alone slots (load file) m n e f l =
    one_answer
    (turn_answer slots (load file) m ∙ ap (λ (k : Ledger). (on_load (loads slots file) k).answer) l ∙ sym (turn_answer slots (load file) n))
    (turn_ledger slots (load file) m e ∙ ap (λ (k : Ledger). (on_load (loads slots file) k).after) l ∙ sym (turn_ledger slots (load file) n f))
