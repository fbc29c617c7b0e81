-- A file is read as a ledger exactly when it is that ledger's snapshot: parse_snapshot by its definition, its snapshot by the loose
-- reading. So equal snapshots are those of one ledger. Assumes nothing.
use mathlib.Core.Path.{◌≡◌, sym, ap, ◌∙◌}
use mathlib.Core.Bool.{true}
use mathlib.Core.List.{List}
use Rattle.std.proofs.Common.{Some}
use Prim.Native.Nat.{ℕ, ◌≤◌}
use native.Mathlib.Omega.{arith}
use lib.Dec.{leb}
use lib.ListN.{length}
use borrow.Author.Tests.{le-leb, leb-true}
use Rattle.octets.specs.Compare.{same}
use Rattle.octets.proofs.Laws.{needed, answered, some_is, same_refl, same_true}
use Rattle.id.proofs.Laws.{id_fits, from_bytes_of}
use Rattle.stream.specs.Ledger.{Ledger, is_ledger}
use Rattle.stream.specs.Cut.{fresh_cut, most_slots}
use Rattle.groups.proofs.Laws.{sound}
use Rattle.stream.proofs.Laws.{fresh_keep, fresh_messages, ledger_rules}
use Rattle.snapshot.specs.Bytes.{parts_of, snapshot_of}
use Rattle.snapshot.specs.Parse.{parse_file, read_ledger, parse_snapshot}
use Rattle.snapshot.proofs.Loose.{parse_file_lem, read_parts_lem}
use Rattle.snapshot.proofs.Sizes.{parts_count, bodies_most}

-- the parts of a ledger are read as that ledger
read_ledger_lem : (l : Ledger) → is_ledger l ≡ true → length (fresh_cut l.messages) ≤ 64 → read_ledger (parts_of l) ≡ Some l
unfolding parts_of
read_ledger_lem l e h =
    let r = ledger_rules l e in
    rw (
      read_parts_lem 64 l.last (fresh_cut l.messages) l.groups (fresh_keep 64 l.last l.messages r.messages_are h).nodes_are (sound l.last l.groups r.groups_are).groups,
      from_bytes_of l.last (id_fits l.last r.last_fits),
      fresh_messages l.messages,
    )

pub snapshot_parse : (l : Ledger) → is_ledger l ≡ true → length (fresh_cut l.messages) ≤ 64 → parse_snapshot (snapshot_of l) ≡ Some l
unfolding parse_snapshot snapshot_of
snapshot_parse l e h =
    rw (
      parse_file_lem (parts_of l) (omega (arith, parts_count l e h)) (omega (arith, bodies_most l e h)),
      read_ledger_lem l e h,
      e,
      le-leb (length (fresh_cut l.messages)) 64 h,
      same_refl (snapshot_of l),
    )

-- what is read as a ledger is its snapshot
pub record SnapshotOf (f : List ℕ) (l : Ledger) : Type 0 where
  pub is_ledger_lem : is_ledger l ≡ true
  pub few_nodes : length (fresh_cut l.messages) ≤ 64
  pub bytes : f ≡ snapshot_of l

pub parse_snapshot_lem : (f : List ℕ) (l : Ledger) → parse_snapshot f ≡ Some l → SnapshotOf f l
unfolding parse_snapshot
parse_snapshot_lem f l e =
    answered (parse_file f) _ e λ ps p k1.
    answered (read_ledger ps) _ k1 λ m q k2.
    needed (is_ledger m) _ k2 λ r k3.
    needed (leb (length (fresh_cut m.messages)) most_slots) _ k3 λ t k4.
    needed (same (snapshot_of m) f) (Some m) k4 λ u k5.
    let z : m ≡ l = some_is k5 in
    record {
      is_ledger_lem = ap is_ledger (sym z) ∙ r;
      few_nodes = omega (arith, leb-true (length (fresh_cut m.messages)) 64 t, ap (λ (x : Ledger). length (fresh_cut x.messages)) z);
      bytes = sym (same_true (snapshot_of m) f u) ∙ ap snapshot_of z;
    }

-- a snapshot is that of one ledger
pub snapshot_injective : (k l : Ledger) → is_ledger k ≡ true → length (fresh_cut k.messages) ≤ 64 → is_ledger l ≡ true → length (fresh_cut l.messages) ≤ 64
    → snapshot_of k ≡ snapshot_of l → k ≡ l
snapshot_injective k l a b c d e = some_is (sym (snapshot_parse k a b) ∙ ap parse_snapshot e ∙ snapshot_parse l c d)
