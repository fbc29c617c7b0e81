use mathlib.Core.Path.{◌≡◌, sym, ap, ◌∙◌}
use native.Mathlib.Omega.{arith}
use mathlib.Core.List.{List}
use Prim.Native.Nat.{ℕ, ◌+◌, ◌-◌}
use lib.ListN.{length, drop}
use Rattle.std.proofs.Common.{Some}
use Rattle.octets.specs.Place.{area}
use Rattle.id.specs.declared.Id.{Id}
use Rattle.id.specs.Id.{same_id}
use Rattle.id.specs.Bytes.{id_from}
use Rattle.groups.specs.Group.{Pending, are_pending}
use Rattle.groups.specs.Parse.{all_pending_in, group_in}
use Rattle.groups.proofs.Rules.{rules}
use Rattle.groups.proofs.Verdicts.{sound_tested}
use Rattle.groups.proofs.Searched.{held_at, held_from, pending_from, held_start, held_next, held_found, held_done, left_kept}
use Rattle.groups.proofs.reading.find_pending.Goals as goal
use Rattle.groups.proofs.reading.find_pending.Goals.{After-is_same, In-loop-k}

-- the test of an entry
tested : (c : After-is_same) → let x = c.args in
    c.is_same.result ≡ same_id (id_from (area c.loop-k.at 16 x.region.now)) x.id
tested c =
    let x = c.args in
    c.is_same.ensures ∙ ap (λ (i : Id). same_id i x.id) c.read_id.ensures

size : (c : In-loop-k) → length c.args.region.now ≡ 7220
size c = (sound_tested c.args.region.now c.requires).size

pub pending_count-count-requires : goal.pending_count-count-requires
pending_count-count-requires c = c.requires

pub loop-k-init : goal.loop-k-init
loop-k-init c =
    let s = c.args.region.now in
    let e = c.pending_count-count.ensures.0 in
    let none : c.pending_count-count.result - 0 ≡ c.pending_count-count.result = omega arith in
    rw none (
      omega arith,
      omega arith,
      ap (are_pending (group_in s).consumers) (pending_from s c.pending_count-count.result e) ∙ (rules (group_in s) c.requires.rules_kept).entries,
      held_start s c.pending_count-count.result c.args.id e,
    )

pub read_id-requires : goal.read_id-requires
read_id-requires c = omega (arith, size (goal.at.read_id-requires c).In-loop-k)

pub is_same-requires : goal.is_same-requires
is_same-requires c = search

pub bounds-region-at : goal.bounds-region-at
bounds-region-at c = omega (arith, size (goal.at.bounds-region-at c).In-loop-k)

pub wide-consumer-requires : goal.wide-consumer-requires
wide-consumer-requires c = search

pub read_le-time-requires : goal.read_le-time-requires
read_le-time-requires c = omega (arith, size (goal.at.read_le-time-requires c).In-loop-k)

pub read_le-count-requires : goal.read_le-count-requires
read_le-count-requires c = omega (arith, size (goal.at.read_le-count-requires c).In-loop-k)

pub returns-then-is_same : goal.returns-then-is_same
returns-then-is_same c =
    let s = c.args.region.now in
    let l = c.loop-k in
    let p = c.wide-consumer.ensures.0 in
    let q = c.read_le-time.ensures.0 in
    let r = c.read_le-count.ensures.0 in
    (λ i. Some (held_at l.k (p i) (q i) (r i)))
    ∙ sym (held_found (group_in s).consumers l.k c.args.id (c.pending_count-count.result - l.k) l.at s (omega arith) (rules (group_in s) c.requires.rules_kept).rising l.invariant.2 (sym (tested (goal.at.returns-then-is_same c).After-is_same) ∙ c.if-is_same.true))
    ∙ l.invariant.3

pub loop-k-preserved : goal.loop-k-preserved
loop-k-preserved c =
    let s = c.args.region.now in
    let l = c.loop-k in
    let n = c.pending_count-count.result in
    let e : n - (l.k + 1) ≡ n - l.k - 1 = omega arith in
    let rest : ℕ → List Pending = λ (m : ℕ). all_pending_in m (group_in s).consumers (drop (l.at + 27) s) in (
      omega arith,
      omega arith,
      ap (λ (m : ℕ). are_pending (group_in s).consumers (rest m)) e ∙ left_kept (group_in s).consumers l.k c.args.id (n - l.k) l.at s (omega arith) l.invariant.2,
      ap (λ (m : ℕ). held_from (group_in s).consumers (l.k + 1) c.args.id (rest m)) e
          ∙ sym (held_next (group_in s).consumers l.k c.args.id (c.pending_count-count.result - l.k) l.at s (omega arith) (sym (tested (goal.at.loop-k-preserved c).After-is_same) ∙ c.if-is_same.false)) ∙ l.invariant.3,
    )

pub returns : goal.returns
returns c =
    let s = c.args.region.now in
    let l = c.loop-k in
    sym (held_done (group_in s).consumers l.k c.args.id (c.pending_count-count.result - l.k) l.at s (omega arith)) ∙ l.invariant.3
