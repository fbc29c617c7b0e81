-- The promise of every command in one equation: what is told and held follows from the command, the slots and what was held.
-- Assumes nothing.
use mathlib.Core.Path.{◌≡◌, refl, sym, ap, ◌∙◌}
use mathlib.Core.Bool.{Bool, true, false}
use mathlib.Core.List.{List}
use Rattle.std.proofs.Common.{Option, Some, None}
use Prim.Native.Nat.{ℕ}
use lib.Dec.{eqb}
use lib.ListN.{length}
use Rattle.refusal.specs.declared.Refusal.{Refusal}
use Rattle.refusal.specs.declared.Refusal.TheVariants.{NoSlot, Damaged}
use Rattle.octets.specs.Pick.{pick}
use Rattle.stream.specs.Cut.{Model, empty_model}
use Rattle.stream.specs.Command as Stream
use Rattle.stream.specs.Command.{Answer, refused, done}
use Rattle.stream.specs.LedgerStep.{on_set_up}
use Rattle.stream.specs.Step.{Step, step}
use Rattle.stream.specs.Run.{Turn}
use Rattle.stream.specs.Promise.{Lent, held_by, slots_of, tail_of, FollowsBy, Becomes, SetsUpBy}
use Rattle.snapshot.specs.Command.{Command, on_stream, save, load, save_by, loaded, refuses, Loading, refusing, loading, loads, loads_to, step_of, is_set_up, heals, healed, turn}
use Rattle.snapshot.specs.Promise.{LoadsBy, Does}

abbrev turned : Answer → Option Model → Turn Answer (Option Model)
turned a h = record { answer = a; after = h }

abbrev stepped : Answer → Model → Step
stepped a m = record { answer = a; after = m }

-- set up and load, by what they do to every model: a refusal leaves what is held; otherwise it does not matter
module _ (slots : ℕ) (c : Command) (z : heals c ≡ true) where
  heals_not : (n : Refusal) → ((m : Model) → step_of slots c m ≡ refuses m n) → (h : Option Model) → turn slots c h ≡ turned (refused n) h
  heals_not n e None = ap (λ (b : Bool). pick b (healed (step_of slots c empty_model)) (turned (refused Damaged) None)) z ∙ ap healed (e empty_model)
  heals_not n e (Some m) = ap (λ (s : Step). turned s.answer (Some s.after)) (e m)

  heals_to : (x : Model) → ((m : Model) → step_of slots c m ≡ stepped done x) → (h : Option Model) → turn slots c h ≡ turned done (Some x)
  heals_to x e None = ap (λ (b : Bool). pick b (healed (step_of slots c empty_model)) (turned (refused Damaged) None)) z ∙ ap healed (e empty_model)
  heals_to x e (Some m) = ap (λ (s : Step). turned s.answer (Some s.after)) (e m)

set_up_none : (slots : ℕ) (m : Model) → eqb slots 0 ≡ true → step slots Stream.set_up m ≡ refuses m NoSlot
unfolding step on_set_up
set_up_none slots m e = rw e

set_up_done : (slots : ℕ) (m : Model) → eqb slots 0 ≡ false → step slots Stream.set_up m ≡ stepped done empty_model
unfolding step on_set_up
set_up_done slots m e = rw e

module _ {T : Type 0} (tell : Answer → T) (i j : Lent) (t : T) where
  pub record Turned (c : Command) : Type 0 where
    pub told_is : t ≡ tell (turn (slots_of i) c (held_by i)).answer
    pub held_is : held_by j ≡ (turn (slots_of i) c (held_by i)).after
    pub size_kept : length j.store ≡ length i.store
    pub tail_kept : tail_of j ≡ tail_of i

  -- every byte kept
  still : (c : Command) (a : Answer) → turn (slots_of i) c (held_by i) ≡ turned a (held_by i) → t ≡ tell a → j ≡ i → Turned c
  still c a e h k =
      record {
        told_is = h ∙ ap (λ (x : Turn Answer (Option Model)). tell x.answer) (sym e);
        held_is = ap held_by k ∙ ap (λ (x : Turn Answer (Option Model)). x.after) (sym e);
        size_kept = ap (λ (l : Lent). length l.store) k;
        tail_kept = ap tail_of k;
      }

  goes : (c : Command) (a : Answer) (m : Model) → turn (slots_of i) c (held_by i) ≡ turned a (Some m) → t ≡ tell a → held_by j ≡ Some m
      → length j.store ≡ length i.store → tail_of j ≡ tail_of i → Turned c
  goes c a m e h p z r =
      record {
        told_is = h ∙ ap (λ (x : Turn Answer (Option Model)). tell x.answer) (sym e);
        held_is = p ∙ ap (λ (x : Turn Answer (Option Model)). x.after) (sym e);
        size_kept = z;
        tail_kept = r;
      }

  becomes : (c : Command) (m : Model) → turn (slots_of i) c (held_by i) ≡ turned done (Some m) → Becomes tell m i t j → Turned c
  becomes c m e d = goes c done m e d.told_is d.holds d.size_kept d.tail_kept

  follows : (c : Stream.Command) → is_set_up c ≡ false → (h : Option Model) → held_by i ≡ h → FollowsBy tell c h i t j → Turned (on_stream c)
  follows c z None p d =
      still (on_stream c) (refused Damaged)
      (ap (turn (slots_of i) (on_stream c)) p
      ∙ ap (λ (b : Bool). pick b (healed (step (slots_of i) c empty_model)) (turned (refused Damaged) None)) z
      ∙ ap (turned (refused Damaged)) (sym p))
      d.0 d.1
  follows c z (Some m) p d =
      let s = step (slots_of i) c m in
      goes (on_stream c) s.answer s.after (ap (turn (slots_of i) (on_stream c)) p) d.told_is d.holds d.size_kept d.tail_kept

  sets_up : (b : Bool) → eqb (slots_of i) 0 ≡ b → SetsUpBy tell b i t j → Turned (on_stream Stream.set_up)
  sets_up true e d =
      still (on_stream Stream.set_up) (refused NoSlot) (heals_not (slots_of i) (on_stream Stream.set_up) refl NoSlot (λ m. set_up_none (slots_of i) m e) (held_by i)) d.0 d.1
  sets_up false e d =
      becomes (on_stream Stream.set_up) empty_model
      (heals_to (slots_of i) (on_stream Stream.set_up) refl empty_model (λ m. set_up_done (slots_of i) m e) (held_by i)) d

  saves : (room : ℕ) (h : Option Model) → turn (slots_of i) (save room) h ≡ turned (save_by room h) h
  saves room None = refl
  saves room (Some m) = refl

  loaded_by : (file : List ℕ) (x : Loading) → loads (slots_of i) file ≡ x → LoadsBy tell x i t j → Turned (load file)
  loaded_by file (refusing n) e d =
      still (load file) (refused n) (heals_not (slots_of i) (load file) refl n (λ m. ap (λ (x : Loading). loads_to x m) e) (held_by i)) d.0 d.1
  loaded_by file (loading l) e d =
      becomes (load file) (loaded l) (heals_to (slots_of i) (load file) refl (loaded l) (λ m. ap (λ (x : Loading). loads_to x m) e) (held_by i)) d

  pub does_turn : (c : Command) → Does tell c i t j → Turned c
  does_turn (on_stream Stream.set_up) d = sets_up (eqb (slots_of i) 0) refl d
  does_turn (on_stream (Stream.add x s)) d = follows (Stream.add x s) refl (held_by i) refl d
  does_turn (on_stream (Stream.add_by_clock time s)) d = follows (Stream.add_by_clock time s) refl (held_by i) refl d
  does_turn (on_stream (Stream.delete x)) d = follows (Stream.delete x) refl (held_by i) refl d
  does_turn (on_stream (Stream.trim k)) d = follows (Stream.trim k) refl (held_by i) refl d
  does_turn (on_stream (Stream.create_group name start)) d = follows (Stream.create_group name start) refl (held_by i) refl d
  does_turn (on_stream (Stream.destroy_group name)) d = follows (Stream.destroy_group name) refl (held_by i) refl d
  does_turn (on_stream (Stream.asks q)) d = follows (Stream.asks q) refl (held_by i) refl d
  does_turn (on_stream (Stream.in_group name c)) d = follows (Stream.in_group name c) refl (held_by i) refl d
  does_turn (save room) d = still (save room) (save_by room (held_by i)) (saves room (held_by i)) d.0 d.1
  does_turn (load file) d = loaded_by file (loads (slots_of i) file) refl d
