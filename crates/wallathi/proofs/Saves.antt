-- Saves in lists of calls: exactly when accepted, and what they write. Assumes nothing.
use mathlib.Core.Path.{◌≡◌, refl, sym, ap, ◌∙◌}
use mathlib.Core.Bool.{Bool, true, false}
use mathlib.Core.List.{List, [], ◌∷◌, ◌++◌}
use Rattle.std.proofs.Common.{Option, Some, None, option_map}
use Prim.Native.Nat.{ℕ, ◌+◌}
use native.Mathlib.Omega.{arith}
use lib.Dec.{leb}
use lib.ListN.{length, take, drop}
use lib.Seq.{take_at}
use Rattle.refusal.specs.declared.Refusal.TheVariants.{ShortOutput, MostNodes}
use Rattle.octets.specs.Pick.{pick}
use Rattle.octets.specs.Place.{put}
use Rattle.octets.proofs.Laws.{some_is}
use Rattle.stream.specs.Ledger.{Ledger}
use Rattle.stream.specs.Cut.{Model, ledger_of, fresh_cut}
use Rattle.stream.specs.Command.{refused, written, set_up}
use Rattle.stream.specs.Promise.{Lent, held_by, slots_of}
use Rattle.snapshot.specs.Bytes.{snapshot_of}
use Rattle.snapshot.specs.Command.{save, save_reply, save_by}
use Rattle.snapshot.proofs.Laws.{saves_same}
use Rattle.wallathi.specs.Export.{Seen, seen, tell_to}
use Rattle.wallathi.specs.Run.{Call, call, plain, Meets, Made}
use Rattle.wallathi.specs.Demands.{kept_after, ledger_by, save_seen, file_in, SeenAt}
use Rattle.wallathi.proofs.Runs.{held_rules, whole, at, made_length}

pub put_first : (out bs : List ℕ) → put out 0 bs ≡ bs ++ drop (length bs) out
unfolding put
put_first out bs = let e : 0 + length bs ≡ length bs = omega arith in ap (λ (n : ℕ). bs ++ drop n out) e

-- what was written starts the output
pub file_is : (len : ℕ) (out f : List ℕ) → file_in (tell_to (len ∷ []) out (written f)) ≡ f
file_is len out f = ap (take (length f)) (put_first out f) ∙ take_at f (drop (length f) out) (length f) refl

save_seen_lem : (len : ℕ) (out : List ℕ) (l : Ledger) → tell_to (len ∷ []) out (save_reply (length out) l) ≡ save_seen len out l
unfolding save_reply
save_seen_lem len out l = by (leb (length (fresh_cut l.messages)) 64) (leb (length (snapshot_of l)) (length out))
  where
    by : (a b : Bool) → tell_to (len ∷ []) out (pick a (pick b (written (snapshot_of l)) (refused ShortOutput)) (refused MostNodes))
        ≡ pick a (pick b (seen 0 (length (snapshot_of l) ∷ []) (snapshot_of l ++ drop (length (snapshot_of l)) out)) (seen 8 (len ∷ []) out)) (seen 15 (len ∷ []) out)
    by true true = ap (λ (bs : List ℕ). seen 0 (length (snapshot_of l) ∷ []) bs) (put_first out (snapshot_of l))
    by true false = refl
    by false b = refl

module _ (i j : Lent) (s : Seen) (len : ℕ) (out : List ℕ) (d : Meets (call save (len ∷ []) out) i s j) where
  -- of an image
  pub saved : (l : Ledger) → ledger_by i ≡ Some l → (s ≡ save_seen len out l) × (j ≡ i)
  saved l e = (by (held_by i) e d.does.0, d.does.1)
    where
      by : (h : Option Model) → option_map ledger_of h ≡ Some l → s ≡ tell_to (len ∷ []) out (save_by (length out) h) → s ≡ save_seen len out l
      by None e q = absurd (let z : ◌≡◌ {A = ℕ} 0 1 = cc in omega arith)
      by (Some m) e q = q ∙ ap (λ (x : Ledger). tell_to (len ∷ []) out (save_reply (length out) x)) (some_is e) ∙ save_seen_lem len out l

  -- an accepted save: its file is what a model's save writes
  pub record Accepted : Type 0 where
    pub model : Model
    pub held : held_by i ≡ Some model
    pub writes : save_reply (length out) (ledger_of model) ≡ written (file_in s)

  pub accepted : s.code ≡ 0 → Accepted
  unfolding save_reply
  accepted e = by (held_by i) refl d.does.0
    where
      code_is : {t : Seen} → s ≡ t → t.code ≡ 0
      code_is q = sym (ap (λ (x : Seen). x.code) q) ∙ e

      tests : (m : Model) → held_by i ≡ Some m → (a b : Bool) → leb (length (fresh_cut (ledger_of m).messages)) 64 ≡ a → leb (length (snapshot_of (ledger_of m))) (length out) ≡ b
          → s ≡ tell_to (len ∷ []) out (pick a (pick b (written (snapshot_of (ledger_of m))) (refused ShortOutput)) (refused MostNodes)) → Accepted
      tests m h true true p q t =
          let f : List ℕ = snapshot_of (ledger_of m) in
          let z : file_in s ≡ f = ap file_in t ∙ file_is len out f in
          record { model = m; held = h; writes = rw (p, q) (ap written (sym z)) }
      tests m h true false p q t = absurd (let z : 8 ≡ 0 = code_is t in omega arith)
      tests m h false b p q t = absurd (let z : 15 ≡ 0 = code_is t in omega arith)

      by : (h : Option Model) → held_by i ≡ h → s ≡ tell_to (len ∷ []) out (save_by (length out) h) → Accepted
      by None h q = absurd (let z : 2 ≡ 0 = code_is q in omega arith)
      by (Some m) h q = tests m h (leb (length (fresh_cut (ledger_of m).messages)) 64) (leb (length (snapshot_of (ledger_of m))) (length out)) refl refl q

-- two stores whose saves are accepted
pub same_saves : (i j k l : Lent) (s t : Seen) (m n : ℕ) (out place : List ℕ) → Meets (call save (m ∷ []) out) i s j → Meets (call save (n ∷ []) place) k t l
    → s.code ≡ 0 → t.code ≡ 0 → (file_in s ≡ file_in t → ledger_by i ≡ ledger_by k) × (ledger_by i ≡ ledger_by k → file_in s ≡ file_in t)
same_saves i j k l s t m n out place d e p q =
    let a = accepted i j s m out d p in
    let b = accepted k l t n place e q in
    let u : ledger_by i ≡ Some (ledger_of a.model) = ap (option_map ledger_of) a.held in
    let v : ledger_by k ≡ Some (ledger_of b.model) = ap (option_map ledger_of) b.held in
    let w =
    saves_same (slots_of i) (slots_of k) (length out) (length place) a.model b.model (file_in s) (file_in t) (held_rules i a.model a.held) (held_rules k b.model b.held) a.writes b.writes in
    (λ x. u ∙ ap Some (w.0 x) ∙ sym v, λ x. w.1 (some_is (sym u ∙ x ∙ v)))

-- a save in a list from a fresh store
pub saved_there : (cs ds : List Call) {i k : Lent} {ss : List Seen} (i₀ : Lent) (s : Seen) (len : ℕ) (out : List ℕ) → Meets (plain set_up []) i₀ s i
    → s.code ≡ 0 → Made (cs ++ (call save (len ∷ []) out ∷ ds)) i ss k → SeenAt cs (save_seen len out (kept_after (slots_of i₀) cs).ledger) ss
saved_there cs ds i₀ s len out d e m =
    let a = at cs m in
    let w = whole i₀ s d e a.made in
    let v = saved a.before a.after a.here len out a.meets (kept_after (slots_of i₀) cs).ledger w.ledger_is in
    record {
      first = a.first;
      later = a.later;
      seen_are = a.seen_are ∙ ap (λ (x : Seen). a.first ++ (x ∷ a.later)) v.0;
      as_many = made_length a.made;
    }
