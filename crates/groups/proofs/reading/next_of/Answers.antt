use mathlib.Core.Path.{◌≡◌, sym, ap, ◌∙◌}
use mathlib.Core.List.{[]}
use native.Mathlib.Omega.{arith}
use Prim.Native.Nat.{ℕ, ◌+◌, ◌-◌}
use lib.ListN.{length, drop, get_or}
use Rattle.std.proofs.Common.{Some}
use Rattle.groups.specs.Parse.{all_pending_in, group_in}
use Rattle.groups.specs.Answer.{entry_given}
use Rattle.groups.proofs.Rules.{rules}
use Rattle.groups.proofs.Verdicts.{sound_tested}
use Rattle.groups.proofs.Searched.{next_at, next_from, next_start, next_other, next_found, next_done}
use Rattle.groups.proofs.reading.next_of.Goals as goal
use Rattle.groups.proofs.reading.next_of.Goals.{In-loop}

size : (c : In-loop) → length c.args.region.now ≡ 7220
size c = (sound_tested c.args.region.now c.requires.0).size

pub pending_count-count-requires : goal.pending_count-count-requires
pending_count-count-requires c = c.requires.0

pub loop-init : goal.loop-init
loop-init c =
    let x = c.args in
    let s = x.region.now in
    let none : c.pending_count-count.result - 0 ≡ c.pending_count-count.result = omega arith in
    rw none (omega arith, next_start s c.pending_count-count.result (get_or (group_in s).consumers x.consumer []) x.after c.pending_count-count.ensures.0)

pub is_next-requires : goal.is_next-requires
is_next-requires c = omega (arith, size (goal.at.is_next-requires c).In-loop)

pub read_id-id-requires : goal.read_id-id-requires
read_id-id-requires c = omega (arith, size (goal.at.read_id-id-requires c).In-loop)

pub read_le-time-requires : goal.read_le-time-requires
read_le-time-requires c = omega (arith, size (goal.at.read_le-time-requires c).In-loop)

pub read_le-count-requires : goal.read_le-count-requires
read_le-count-requires c = omega (arith, size (goal.at.read_le-count-requires c).In-loop)

pub returns-then-is_next : goal.returns-then-is_next
returns-then-is_next c =
    let s = c.args.region.now in
    let l = c.loop in
    let p = c.read_id-id.ensures in
    let q = c.read_le-time.ensures.0 in
    let r = c.read_le-count.ensures.0 in
    (λ i. entry_given (get_or (group_in s).consumers c.args.consumer []) (Some (next_at (p i) (q i) (r i))))
    ∙ sym (next_found (group_in s).consumers (rules (group_in s) c.requires.0.rules_kept).rising c.args.consumer c.requires.1 c.args.after (c.pending_count-count.result - l.counter) l.at s (omega arith) (sym c.is_next.ensures ∙ c.if-is_next.true))
    ∙ l.invariant.1

pub loop-preserved : goal.loop-preserved
loop-preserved c =
    let s = c.args.region.now in
    let l = c.loop in
    let n = c.pending_count-count.result in
    let e : n - (l.counter + 1) ≡ n - l.counter - 1 = omega arith in (
      omega arith,
      ap (λ (m : ℕ). next_from (get_or (group_in s).consumers c.args.consumer []) c.args.after (all_pending_in m (group_in s).consumers (drop (l.at + 27) s))) e
          ∙ sym (next_other (group_in s).consumers (rules (group_in s) c.requires.0.rules_kept).rising c.args.consumer c.requires.1 c.args.after (c.pending_count-count.result - l.counter) l.at s (omega arith) (sym c.is_next.ensures ∙ c.if-is_next.false))
          ∙ l.invariant.1,
    )

pub returns : goal.returns
returns c =
    let s = c.args.region.now in
    let l = c.loop in
    sym (next_done (get_or (group_in s).consumers c.args.consumer []) c.args.after (group_in s).consumers (c.pending_count-count.result - l.counter) l.at s (omega arith)) ∙ l.invariant.1
