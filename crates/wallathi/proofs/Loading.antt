-- Loads in lists of calls, on whatever bytes: exactly when accepted, and what the store then holds. Assumes nothing.
use mathlib.Core.Path.{◌≡◌, refl, sym, ap, ◌∙◌}
use mathlib.Core.List.{List, []}
use Rattle.std.proofs.Common.{Some, option_map}
use Prim.Native.Nat.{ℕ, ◌≤◌}
use native.Mathlib.Omega.{arith}
use lib.ListN.{length}
use Rattle.refusal.specs.Number.{number_of}
use Rattle.stream.specs.Ledger.{Ledger}
use Rattle.stream.specs.Cut.{ledger_of, slots_in}
use Rattle.stream.specs.Promise.{Lent, slots_of}
use Rattle.stream.proofs.Laws.{fresh_ledger}
use Rattle.snapshot.specs.Command.{load, Loading, refusing, loading, loads}
use Rattle.snapshot.specs.Promise.{LoadsBy}
use Rattle.snapshot.proofs.Laws.{load_accepted, load_refused, load_does}
use Rattle.wallathi.specs.Export.{Seen, tell_to}
use Rattle.wallathi.specs.Run.{call, Meets}
use Rattle.wallathi.specs.Demands.{Fits, Loads}

-- a slot is 4,096 bytes
has_slot_lem : (n : ℕ) → 1 ≤ slots_in n → 4096 ≤ n
has_slot_lem n h = omega arith

some_slot : (n : ℕ) → 4096 ≤ n → 1 ≤ slots_in n
some_slot n h = omega arith

-- a file that fits is loaded
fits_loads : (file : List ℕ) (i : Lent) (l : Ledger) → Fits file i l → loads (slots_of i) file ≡ loading l
fits_loads file i l f =
    let s : 1 ≤ slots_of i = some_slot (length i.store) f.has_slot_lem in
    ap (loads (slots_of i)) f.bytes ∙ load_does (slots_of i) l f.is_ledger_lem f.few_nodes s f.fits

module _ (file : List ℕ) (i j : Lent) (s : Seen) where
  by_loading : (x : Loading) → loads (slots_of i) file ≡ x → LoadsBy (tell_to [] []) x i s j → Loads file i s j
  -- a refusal: no ledger fits, and every byte is kept
  by_loading (refusing n) e d =
      let c : s.code ≡ number_of n = ap (λ (x : Seen). x.code) d.0 in
      let h = load_refused (slots_of i) file n e in
      record {
        accepts = λ l f. absurd (let x : loading l ≡ refusing n = sym (fits_loads file i l f) ∙ e in let z : ◌≡◌ {A = ℕ} 0 1 = cc in omega arith);
        accepted = λ z. absurd (omega arith);
        refused = λ _. d.1;
      }
  by_loading (loading l) e d =
      let x = load_accepted (slots_of i) file l e in
      let c : s.code ≡ 0 = ap (λ (y : Seen). y.code) d.told_is in
      record {
        accepts = λ _ _. c;
        accepted = λ _. record {
          ledger = l;
          fits = record {
            is_ledger_lem = x.snapshot.is_ledger_lem;
            few_nodes = x.snapshot.few_nodes;
            bytes = x.snapshot.bytes;
            has_slot_lem = has_slot_lem (length i.store) x.has_slots;
            fits = x.fits;
          };
          holds = ap (option_map ledger_of) d.holds ∙ ap Some (fresh_ledger l);
          cut_is = d.holds;
          size_kept = d.size_kept;
          tail_kept = d.tail_kept;
        };
        refused = λ h. absurd (h c);
      }

  pub loads_exactly : Meets (call (λ _. load file) [] []) i s j → Loads file i s j
  loads_exactly d = by_loading (loads (slots_of i) file) refl d.does
