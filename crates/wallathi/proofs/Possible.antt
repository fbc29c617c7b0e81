-- For every store and every list of calls with arguments that C can pass there is such a list of promises kept: the claims are not said
-- of nothing. Assumes nothing.
use mathlib.Core.Path.{◌≡◌, refl, sym, ap, ◌∙◌, subst}
use mathlib.Core.Bool.{Bool, true, false}
use mathlib.Core.List.{List, [], ◌∷◌}
use Rattle.std.proofs.Common.{Option, Some, None}
use Prim.Native.Nat.{ℕ, ◌≤◌}
use native.Mathlib.Omega.{arith}
use lib.Dec.{eqb}
use lib.ListN.{length}
use borrow.Author.Tests.{eqb-true}
use Rattle.refusal.specs.declared.Refusal.{Refusal}
use Rattle.refusal.specs.declared.Refusal.TheVariants.{NoSlot, Damaged}
use Rattle.state.specs.Layout.{index_stays, index_written}
use Rattle.stream.specs.Ledger.{Ledger}
use Rattle.stream.specs.Cut.{Model, empty_model, messages_of, is_model, slots_in}
use Rattle.stream.specs.Command as Stream
use Rattle.stream.specs.Command.{Answer, refused, done}
use Rattle.stream.specs.Step.{step}
use Rattle.stream.specs.Promise.{Lent, lent, held_by, slots_of, tail_of, Becomes, FollowsBy, SetsUpBy}
use Rattle.stream.proofs.Laws.{model_empty}
use Rattle.snapshot.specs.Command.{Command, on_stream, save, load, save_by, loaded, Loading, refusing, loading, loads, is_set_up}
use Rattle.snapshot.specs.Promise.{Does, DoesStream, LoadsBy}
use Rattle.snapshot.proofs.Laws.{load_model}
use Rattle.wallathi.specs.Export.{Seen, tell_to}
use Rattle.wallathi.specs.Run.{Call, command_of, AreBytes, made_none, made_more}
use Rattle.wallathi.specs.Demands.{PassesStream, Passes, AllPass, SomeRun, FreshRun}
use Rattle.wallathi.proofs.Runs.{held_rules}
use Rattle.wallathi.proofs.Built.{built, regroup}
use Rattle.wallathi.proofs.Keeps.{Outcome, stays, groups_change, nodes_change, outcome}

-- what may be told and left, by a promise over both
record Possibly (T : Type 0) (P : T → Lent → Type 0) : Type 0 where
  told : T
  left : Lent
  meets : P told left
  bytes : AreBytes left

module _ {T : Type 0} (tell : Answer → T) (i : Lent) (b : AreBytes i) where
  refuses : (n : Refusal) → Possibly T (λ t j. (t ≡ tell (refused n)) × (j ≡ i))
  refuses n = record { told = tell (refused n); left = i; meets = (refl, refl); bytes = b }

  becomes : (m : Model) → is_model (slots_of i) m ≡ true → Possibly T (λ t j. Becomes tell m i t j)
  becomes m e =
      let x = built i b m e in
      record {
        told = tell done;
        left = x.lent_as;
        meets = record { told_is = refl; size_kept = x.size_kept; holds = x.holds; tail_kept = x.tail_kept; index_is = x.index_is };
        bytes = x.bytes;
      }

  sets_up : (b : Bool) → Possibly T (λ t j. SetsUpBy tell b i t j)
  sets_up true = refuses NoSlot
  sets_up false = becomes empty_model (model_empty (slots_of i))

  follows : (c : Stream.Command) → is_set_up c ≡ false → PassesStream c → (h : Option Model) → held_by i ≡ h → Possibly T (λ t j. FollowsBy tell c h i t j)
  follows c z p None e = refuses Damaged
  follows c z p (Some m) e = by (outcome (slots_of i) m (held_rules i m e) c z p)
    where
      by : Outcome (slots_of i) (step (slots_of i) c m) m → Possibly T (λ t j. FollowsBy tell c (Some m) i t j)
      by (stays q) =
          record {
            told = tell (step (slots_of i) c m).answer;
            left = i;
            meets = record {
              told_is = refl;
              size_kept = refl;
              holds = e ∙ ap Some (sym q);
              tail_kept = refl;
              kept = λ _. refl;
              index_kept = λ _. refl;
              index_bytes_lem = index_stays refl;
            };
            bytes = b;
          }
      by (groups_change gs q k d) =
          let x = regroup i b m e gs k in
          record {
            told = tell (step (slots_of i) c m).answer;
            left = x.lent_as;
            meets = record {
              told_is = refl;
              size_kept = ap length x.store_kept;
              holds = x.holds ∙ ap Some (sym q);
              tail_kept = ap (λ (s : List ℕ). tail_of (lent s i.state)) x.store_kept;
              kept = λ y. absurd (d (sym (ap (λ (n : Model). n.groups) q) ∙ ap (λ (l : Ledger). l.groups) y));
              index_kept = λ _. x.index_kept;
              index_bytes_lem = index_stays x.index_kept;
            };
            bytes = x.bytes;
          }
      by (nodes_change k d) =
          let x = built i b (step (slots_of i) c m).after k in
          record {
            told = tell (step (slots_of i) c m).answer;
            left = x.lent_as;
            meets = record {
              told_is = refl;
              size_kept = x.size_kept;
              holds = x.holds;
              tail_kept = x.tail_kept;
              kept = λ y. absurd (d (ap (λ (l : Ledger). l.messages) y));
              index_kept = λ y. absurd (d (ap messages_of y));
              index_bytes_lem = index_written x.index_is;
            };
            bytes = x.bytes;
          }

  stream : (c : Stream.Command) → PassesStream c → (b : Bool) → is_set_up c ≡ b → Possibly T (λ t j. DoesStream tell b c i t j)
  stream c p true z = sets_up (eqb (slots_of i) 0)
  stream c p false z = follows c z p (held_by i) refl

  loaded_by : (file : List ℕ) (x : Loading) → loads (slots_of i) file ≡ x → Possibly T (λ t j. LoadsBy tell x i t j)
  loaded_by file (refusing n) e = refuses n
  loaded_by file (loading l) e = becomes (loaded l) (load_model (slots_of i) file l e)

  does : (c : Command) → Passes c → Possibly T (λ t j. Does tell c i t j)
  does (on_stream c) p = stream c p (is_set_up c) refl
  does (save room) p = record { told = tell (save_by room (held_by i)); left = i; meets = (refl, refl); bytes = b }
  does (load file) p = loaded_by file (loads (slots_of i) file) refl

pub some_run : (cs : List Call) (i : Lent) → AreBytes i → AllPass cs → SomeRun cs i
some_run [] i b p = record { seen = []; after = i; made = made_none; bytes = b }
some_run (c ∷ cs) i b p =
    let x = does (tell_to c.values c.output) i b (command_of c) p.0 in
    let r = some_run cs x.left x.bytes p.1 in
    record {
      seen = x.told ∷ r.seen;
      after = r.after;
      made = made_more {c = c} (record { does = x.meets; bytes = x.bytes }) r.made;
      bytes = r.bytes;
    }

pub fresh_run : (cs : List Call) (i₀ : Lent) → AreBytes i₀ → 4096 ≤ length i₀.store → AllPass cs → FreshRun cs i₀
fresh_run cs i₀ b h p = by (eqb (slots_of i₀) 0) refl
  where
    by : (t : Bool) → eqb (slots_of i₀) 0 ≡ t → FreshRun cs i₀
    by true e = absurd (let z : slots_in (length i₀.store) ≡ 0 = eqb-true (slots_of i₀) 0 e in omega arith)
    by false e =
        let x = becomes (tell_to [] []) i₀ b empty_model (model_empty (slots_of i₀)) in
        record {
          told = x.told;
          begun = x.left;
          sets_up = record { does = subst (λ (t : Bool). SetsUpBy (tell_to [] []) t i₀ x.told x.left) (sym e) x.meets; bytes = x.bytes };
          code_is = ap (λ (s : Seen). s.code) x.meets.told_is;
          run_on = some_run cs x.left x.bytes p;
        }
