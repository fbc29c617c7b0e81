use mathlib.Core.Path.{◌≡◌, ap, ◌∙◌}
use mathlib.Core.List.{List}
use Prim.Native.Nat.{ℕ, ◌+◌, ◌-◌}
use native.Mathlib.Omega.{arith}
use lib.ListN.{length, drop, get_or, length-append}
use Rattle.octets.specs.Place.{area}
use Rattle.octets.proofs.Laws.{length_area}
use Rattle.groups.specs.Group.{are_names}
use Rattle.groups.specs.Bytes.{all_names}
use Rattle.groups.specs.Parse.{names_in}
use Rattle.group_body.proofs.Outward.{body_of_lem, FieldTurn, field_turn, names_none}
use Rattle.groups.proofs.Laws.{names_from}
use Rattle.group_body.proofs.writing.names_size.Goals as goal
use Rattle.group_body.proofs.writing.names_size.Goals.{After-wide, In-loop}

size_of_lem : (c : In-loop) → length c.args.region.now ≡ 7220
size_of_lem c = (body_of_lem c.args.region.now c.requires).size

turn : (c : After-wide) → FieldTurn c.args.region.now (c.consumer_count-count.result - c.loop.counter) c.loop.i
turn c =
    let the_size_of_lem : length c.args.region.now ≡ 7220 = (body_of_lem c.args.region.now c.requires).size in let s = c.args.region.now in
    let l = c.loop in
    field_turn s (c.consumer_count-count.result - l.counter) l.i (omega arith) (omega arith) (omega (arith, the_size_of_lem)) l.invariant.2

pub consumer_count-count-requires : goal.consumer_count-count-requires
consumer_count-count-requires c = c.requires

pub loop-init : goal.loop-init
loop-init c =
    let s = c.args.region.now in
    let n = c.consumer_count-count in
    let e = names_from s n.result n.ensures.0 in
    let none : c.consumer_count-count.result - 0 ≡ c.consumer_count-count.result = omega arith in
    rw none (omega arith, omega arith, ap are_names e ∙ (body_of_lem s c.requires).names, omega (arith, ap (λ (l : List (List ℕ)). length (all_names l)) e))

pub bounds-region-i : goal.bounds-region-i
bounds-region-i c = omega (arith, size_of_lem (goal.at.bounds-region-i c).In-loop)

pub wide-requires : goal.wide-requires
wide-requires c = search

pub overflow_add-size : goal.overflow_add-size
overflow_add-size c = omega (arith, (turn (goal.at.overflow_add-size c).After-wide).few_bytes)

pub overflow_add-size-in-loop : goal.overflow_add-size-in-loop
overflow_add-size-in-loop c = omega (arith, (turn (goal.at.overflow_add-size-in-loop c).After-wide).few_bytes)

pub loop-preserved : goal.loop-preserved
loop-preserved c =
    let s = c.args.region.now in
    let l = c.loop in
    let turns : c.consumer_count-count.result - (l.counter + 1) ≡ c.consumer_count-count.result - l.counter - 1 = omega arith in
    let w = c.wide in
    let t = turn (goal.at.loop-preserved c).After-wide in
    let a : List ℕ = area l.i (1 + get_or s l.i 0) s in
    let r : List ℕ = all_names (names_in ((c.consumer_count-count.result - l.counter) - 1) (drop (l.i + 17) s)) in
    let f : length (all_names (names_in (c.consumer_count-count.result - l.counter) (drop l.i s))) ≡ length a + length r = ap length t.first_name ∙ length-append a r in
    let m : length a ≡ 1 + get_or s l.i 0 = length_area l.i (1 + get_or s l.i 0) s (omega (arith, t.few_bytes, size_of_lem (goal.at.loop-preserved c).In-loop, l.invariant.0)) in
    rw turns (omega arith, omega (arith, t.few_bytes), t.others, omega (arith, l.invariant.3, w.ensures.0))

pub returns : goal.returns
returns c =
    let s = c.args.region.now in
    let l = c.loop in
    (omega (arith, l.invariant.3, ap length (names_none s (c.consumer_count-count.result - l.counter) l.i (omega arith))), omega arith)
