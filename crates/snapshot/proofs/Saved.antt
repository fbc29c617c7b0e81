-- Save and load on models: when each is accepted, and that each undoes the other. Assumes nothing.
use mathlib.Core.Path.{◌≡◌, refl, sym, ap, ◌∙◌, subst}
use mathlib.Core.Bool.{Bool, true, false}
use mathlib.Core.List.{List}
use Rattle.std.proofs.Common.{Option, Some, None}
use Prim.Native.Nat.{ℕ, ◌≤◌, ◌<◌}
use native.Mathlib.Omega.{arith}
use lib.Dec.{leb, eqb}
use lib.ListN.{length}
use borrow.Author.Tests.{le-leb, lt-leb, leb-true, eq-eqb, ne_eqb, eqb-false}
use Rattle.refusal.specs.declared.Refusal.{Refusal}
use Rattle.refusal.specs.Number.{number_of}
use Rattle.refusal.specs.declared.Refusal.TheVariants.{NoSlot, ShortOutput, MostNodes, NoSnapshot, SmallStore}
use Rattle.octets.specs.Pick.{pick}
use Rattle.octets.proofs.Laws.{pick_by}
use Rattle.stream.specs.Ledger.{Ledger, is_ledger}
use Rattle.stream.specs.Cut.{Model, ledger_of, is_model, fresh_cut}
use Rattle.stream.specs.Command.{refused, written}
use Rattle.stream.proofs.Laws.{model_ledger, fresh_model}
use Rattle.snapshot.specs.Bytes.{snapshot_of}
use Rattle.snapshot.specs.Parse.{parse_snapshot}
use Rattle.snapshot.specs.Command.{save_reply, loaded, Loading, refusing, loading, loading_of, loads}
use Rattle.snapshot.proofs.Snapshots.{SnapshotOf, snapshot_parse, parse_snapshot_lem, snapshot_injective}

-- save is accepted exactly where the fresh cut has at most 64 nodes and the output has room; it writes the snapshot
pub record SaveAccepted (room : ℕ) (l : Ledger) (f : List ℕ) : Type 0 where
  pub few_nodes : length (fresh_cut l.messages) ≤ 64
  pub has_room_lem : length f ≤ room
  pub bytes : f ≡ snapshot_of l

pub save_accepted : (room : ℕ) (l : Ledger) (f : List ℕ) → save_reply room l ≡ written f → SaveAccepted room l f
unfolding save_reply
save_accepted room l f e = by (leb (length (fresh_cut l.messages)) 64) refl (leb (length (snapshot_of l)) room) refl e
  where
    by : (s : Bool) → leb (length (fresh_cut l.messages)) 64 ≡ s → (t : Bool) → leb (length (snapshot_of l)) room ≡ t
        → pick s (pick t (written (snapshot_of l)) (refused ShortOutput)) (refused MostNodes) ≡ written f → SaveAccepted room l f
    by true p true q e =
        let z : f ≡ snapshot_of l = cc in
        record { few_nodes = leb-true (length (fresh_cut l.messages)) 64 p; has_room_lem = omega (arith, ap length z, leb-true (length (snapshot_of l)) room q); bytes = z }
    by true p false q e = absurd (let y : ◌≡◌ {A = ℕ} 0 1 = cc in omega arith)
    by false p t q e = absurd (let y : ◌≡◌ {A = ℕ} 0 1 = cc in omega arith)

pub save_writes : (room : ℕ) (l : Ledger) → length (fresh_cut l.messages) ≤ 64 → length (snapshot_of l) ≤ room → save_reply room l ≡ written (snapshot_of l)
unfolding save_reply
save_writes room l h r = rw (le-leb (length (fresh_cut l.messages)) 64 h, le-leb (length (snapshot_of l)) room r)

-- load is accepted exactly where the file is the snapshot of a ledger whose fresh cut fits the slots, of which there is one at least
pub record LoadAccepted (slots : ℕ) (f : List ℕ) (l : Ledger) : Type 0 where
  pub snapshot : SnapshotOf f l
  pub has_slots : 1 ≤ slots
  pub fits : length (fresh_cut l.messages) ≤ slots

abbrev Loads : ℕ → List ℕ → Loading → Type 0
Loads slots f (refusing r) = 1 ≤ number_of r
Loads slots f (loading l) = LoadAccepted slots f l

pub load_means : (slots : ℕ) (f : List ℕ) → Loads slots f (loads slots f)
unfolding loads
load_means slots f = by (eqb slots 0) refl (parse_snapshot f) refl
  where
    some_slot : (slots ≡ 0 → ⊥) → 1 ≤ slots
    some_slot n = omega arith

    by : (s : Bool) → eqb slots 0 ≡ s → (o : Option Ledger) → parse_snapshot f ≡ o → Loads slots f (pick s (refusing NoSlot) (loading_of slots o))
    by true z o p = omega arith
    by false z None p = omega arith
    by false z (Some l) p =
        pick_by (Loads slots f) (leb (length (fresh_cut l.messages)) slots) (loading l) (refusing SmallStore)
        (λ q. record { snapshot = parse_snapshot_lem f l p; has_slots = some_slot (eqb-false slots 0 z); fits = leb-true (length (fresh_cut l.messages)) slots q })
        (λ q. omega arith)

module _ (slots : ℕ) (f : List ℕ) where
  pub load_accepted : (l : Ledger) → loads slots f ≡ loading l → LoadAccepted slots f l
  load_accepted l e = subst (Loads slots f) e (load_means slots f)

  pub load_refused : (r : Refusal) → loads slots f ≡ refusing r → 1 ≤ number_of r
  load_refused r e = subst (Loads slots f) e (load_means slots f)

  -- the model that a load leaves keeps every rule
  pub load_model : (l : Ledger) → loads slots f ≡ loading l → is_model slots (loaded l) ≡ true
  load_model l e = let a = load_accepted l e in fresh_model slots l a.snapshot.is_ledger_lem a.fits

  -- what it does, by its tests
  pub load_no_slot : slots ≡ 0 → loads slots f ≡ refusing NoSlot
  unfolding loads
  load_no_slot z = rw (eq-eqb slots 0 z)

  module _ (z : slots ≡ 0 → ⊥) where
    pub load_no_snapshot : parse_snapshot f ≡ None → loads slots f ≡ refusing NoSnapshot
    unfolding loads
    load_no_snapshot p = rw (ne_eqb slots 0 z, p)

    module _ (l : Ledger) (p : parse_snapshot f ≡ Some l) where
      pub load_too_many : slots < length (fresh_cut l.messages) → loads slots f ≡ refusing SmallStore
      unfolding loads
      load_too_many h = rw (ne_eqb slots 0 z, p, lt-leb (length (fresh_cut l.messages)) slots h)

      pub load_fits : length (fresh_cut l.messages) ≤ slots → loads slots f ≡ loading l
      unfolding loads
      load_fits h = rw (ne_eqb slots 0 z, p, le-leb (length (fresh_cut l.messages)) slots h)

pub load_does : (slots : ℕ) (l : Ledger) → is_ledger l ≡ true → length (fresh_cut l.messages) ≤ 64 → 1 ≤ slots → length (fresh_cut l.messages) ≤ slots
    → loads slots (snapshot_of l) ≡ loading l
load_does slots l e h s n = load_fits slots (snapshot_of l) (λ z. omega arith) l (snapshot_parse l e h) n

-- load after save: the ledger that was saved
pub load_after_save : (slots room : ℕ) (m : Model) (f : List ℕ) → is_model slots m ≡ true → save_reply room (ledger_of m) ≡ written f
    → (onto : ℕ) → 1 ≤ onto → length (fresh_cut (ledger_of m).messages) ≤ onto → loads onto f ≡ loading (ledger_of m)
load_after_save slots room m f e s onto h l =
    let a = save_accepted room (ledger_of m) f s in
    ap (loads onto) a.bytes ∙ load_does onto (ledger_of m) (model_ledger slots m e) a.few_nodes h l

-- save after load: the file that was loaded
pub save_after_load : (slots room : ℕ) (l : Ledger) (f : List ℕ) → loads slots f ≡ loading l → length f ≤ room → save_reply room l ≡ written f
save_after_load slots room l f e r =
    let s = (load_accepted slots f l e).snapshot in
    save_writes room l s.few_nodes (omega (arith, ap length s.bytes)) ∙ ap written (sym s.bytes)

-- two models whose saves are accepted have one ledger exactly where the two files are one
pub saves_same : (slots onto room place : ℕ) (m n : Model) (f g : List ℕ) → is_model slots m ≡ true → is_model onto n ≡ true
    → save_reply room (ledger_of m) ≡ written f → save_reply place (ledger_of n) ≡ written g → (f ≡ g → ledger_of m ≡ ledger_of n) × (ledger_of m ≡ ledger_of n → f ≡ g)
saves_same slots onto room place m n f g a b s t =
    let p = save_accepted room (ledger_of m) f s in
    let q = save_accepted place (ledger_of n) g t in (
      λ e. snapshot_injective (ledger_of m) (ledger_of n) (model_ledger slots m a) p.few_nodes (model_ledger onto n b) q.few_nodes (sym p.bytes ∙ e ∙ q.bytes),
      λ e. p.bytes ∙ ap snapshot_of e ∙ sym q.bytes,
    )
