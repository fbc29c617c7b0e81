-- The rules of a group, one by one. Assumes nothing.
use mathlib.Core.Path.{◌≡◌}
use mathlib.Core.Bool.{Bool, true}
use mathlib.Core.List.{[]}
use Prim.Native.Nat.{◌≤◌}
use lib.Dec.{leb}
use lib.ListN.{length}
use borrow.Author.Tests.{leb-true, le-leb}
use Rattle.octets.specs.Pick.{both}
use Rattle.octets.proofs.Laws.{both_true, both_of}
use Rattle.id.specs.Id.{Fits64, is_id, least}
use Rattle.groups.specs.Group.{Group, most_consumers, most_pending, is_name, are_names, names_above, rising_names, are_pending, pending_above, pending_up_to, is_group}
use Rattle.groups.proofs.Names.{rising_above, above_rising}
use Rattle.id.proofs.Laws.{id_fits, fits_id}

pub record Rules (g : Group) : Type 0 where
  pub named : is_name g.name ≡ true
  pub fits : Fits64 g.delivered
  pub few : length g.consumers ≤ 16
  pub names : are_names g.consumers ≡ true
  pub rising : names_above [] g.consumers ≡ true
  pub room : length g.pending ≤ 256
  pub entries : are_pending g.consumers g.pending ≡ true
  pub above : pending_above least g.pending ≡ true
  pub up_to_lem : pending_up_to g.delivered g.pending ≡ true

module _ (g : Group) where
  pub rules : is_group g ≡ true → Rules g
  unfolding is_group
  rules e =
      let d : Bool = both (pending_above least g.pending) (pending_up_to g.delivered g.pending) in
      let c : Bool = both (leb (length g.pending) most_pending) (are_pending g.consumers g.pending) in
      let n : Bool = both (are_names g.consumers) (rising_names g.consumers) in
      let b : Bool = both (leb (length g.consumers) most_consumers) n in
      let p = both_true (both (is_name g.name) (is_id g.delivered)) (both b (both c d)) e in
      let q = both_true b (both c d) p.1 in
      let r = both_true c d q.1 in
      let x = both_true (is_name g.name) (is_id g.delivered) p.0 in
      let y = both_true (leb (length g.consumers) most_consumers) n q.0 in
      let z = both_true (are_names g.consumers) (rising_names g.consumers) y.1 in
      let u = both_true (leb (length g.pending) most_pending) (are_pending g.consumers g.pending) r.0 in
      let w = both_true (pending_above least g.pending) (pending_up_to g.delivered g.pending) r.1 in
      record {
        named = x.0;
        fits = id_fits g.delivered x.1;
        few = leb-true (length g.consumers) most_consumers y.0;
        names = z.0;
        rising = rising_above g.consumers z.0 z.1;
        room = leb-true (length g.pending) most_pending u.0;
        entries = u.1;
        above = w.0;
        up_to_lem = w.1;
      }

  pub is_group_lem : Rules g → is_group g ≡ true
  unfolding is_group
  is_group_lem r =
      both_of (both_of r.named (fits_id g.delivered r.fits))
      (both_of
      (both_of (le-leb (length g.consumers) most_consumers r.few) (both_of r.names (above_rising [] g.consumers r.rising)))
      (both_of (both_of (le-leb (length g.pending) most_pending r.room) r.entries) (both_of r.above r.up_to_lem)))
