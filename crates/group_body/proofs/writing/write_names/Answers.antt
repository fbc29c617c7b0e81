use mathlib.Core.Path.{◌≡◌, refl, sym, ap, ◌∙◌}
use mathlib.Core.List.{List, ◌++◌}
use Prim.Native.Nat.{ℕ, ◌+◌, ◌-◌, ◌≤◌}
use native.Mathlib.Omega.{arith}
use lib.ListN.{length, take, drop, get_or, length-append}
use Rattle.octets.specs.Place.{area, put}
use Rattle.octets.proofs.Laws.{length_area, put_none, put_append, part_is}
use Rattle.groups.specs.Group.{are_names}
use Rattle.groups.specs.Bytes.{all_names}
use Rattle.groups.specs.Parse.{names_in}
use Rattle.group_body.proofs.Outward.{body_of_lem, FieldTurn, field_turn, names_none}
use Rattle.groups.proofs.Laws.{names_from}
use Rattle.group_body.proofs.writing.write_names.Goals as goal
use Rattle.group_body.proofs.writing.write_names.Goals.{After-wide, In-loop}

-- the name that is copied, with its length
record Copied (s : List ℕ) (left i n : ℕ) : Type 0 where
  few : n ≤ 17
  size : length (area i n s) ≡ n
  names : all_names (names_in left (drop i s)) ≡ area i n s ++ all_names (names_in (left - 1) (drop (i + 17) s))
  sum : length (all_names (names_in left (drop i s))) ≡ n + length (all_names (names_in (left - 1) (drop (i + 17) s)))

size_of_lem : (c : In-loop) → length c.args.region.now ≡ 7220
size_of_lem c = (body_of_lem c.args.region.now c.requires.0).size

turn : (c : After-wide) → FieldTurn c.args.region.now (c.consumer_count-count.result - c.loop.counter) c.loop.i
turn c =
    let the_size_of_lem : length c.args.region.now ≡ 7220 = (body_of_lem c.args.region.now c.requires.0).size in let s = c.args.region.now in
    let l = c.loop in
    field_turn s (c.consumer_count-count.result - l.counter) l.i (omega arith) (omega arith) (omega (arith, the_size_of_lem)) l.invariant.2

copied : (c : After-wide) → Copied c.args.region.now (c.consumer_count-count.result - c.loop.counter) c.loop.i (1 + c.wide.result)
copied c =
    let the_size_of_lem : length c.args.region.now ≡ 7220 = (body_of_lem c.args.region.now c.requires.0).size in let s = c.args.region.now in
    let l = c.loop in
    let n : ℕ = 1 + c.wide.result in
    let t = turn c in
    let r : List ℕ = all_names (names_in ((c.consumer_count-count.result - l.counter) - 1) (drop (l.i + 17) s)) in
    let q : 1 + get_or s l.i 0 ≡ n = omega (arith, c.wide.ensures.0) in
    let m : length (area l.i n s) ≡ n = length_area l.i n s (omega (arith, t.few_bytes, the_size_of_lem, l.invariant.0)) in
    let e : all_names (names_in (c.consumer_count-count.result - l.counter) (drop l.i s)) ≡ area l.i n s ++ r = t.first_name ∙ ap (λ (j : ℕ). area l.i j s ++ r) q in
    record { few = omega (arith, t.few_bytes); size = m; names = e; sum = ap length e ∙ length-append (area l.i n s) r ∙ ap (λ (j : ℕ). j + length r) m }

pub consumer_count-count-requires : goal.consumer_count-count-requires
consumer_count-count-requires c = c.requires.0

pub loop-init : goal.loop-init
loop-init c =
    let s = c.args.region.now in
    let n = c.consumer_count-count in
    let e = names_from s n.result n.ensures.0 in
    let none : c.consumer_count-count.result - 0 ≡ c.consumer_count-count.result = omega arith in
    rw none (
      omega arith,
      refl,
      ap are_names e ∙ (body_of_lem s c.requires.0).names,
      ap (λ (l : List (List ℕ)). c.args.at + length (all_names l)) e,
      ap (λ (l : List (List ℕ)). put c.args.d.now c.args.at (all_names l)) e,
    )

pub bounds-region-i : goal.bounds-region-i
bounds-region-i c = omega (arith, size_of_lem (goal.at.bounds-region-i c).In-loop)

pub wide-requires : goal.wide-requires
wide-requires c = search

pub overflow_add-n : goal.overflow_add-n
overflow_add-n c = omega (arith, (turn (goal.at.overflow_add-n c).After-wide).few_bytes)

pub overflow_add-i : goal.overflow_add-i
overflow_add-i c = omega (arith, (copied (goal.at.overflow_add-i c).After-wide).few)

pub slice_bounds-copy_in-end : goal.slice_bounds-copy_in-end
slice_bounds-copy_in-end c = omega (arith, (copied (goal.at.slice_bounds-copy_in-end c).After-wide).few, size_of_lem (goal.at.slice_bounds-copy_in-end c).In-loop)

pub copy_in-requires : goal.copy_in-requires
copy_in-requires c =
    let l = c.loop in
    let s = c.args.region.now in
    let n : ℕ = 1 + c.wide.result in
    let w = copied (goal.at.copy_in-requires c).After-wide in
    let q : length (take (l.i + n - l.i) (drop l.i s)) ≡ n = ap length (part_is l.i n s) ∙ w.size in
    omega (arith, q, w.sum, l.invariant.3, l.invariant.1, c.requires.1)

pub overflow_add-to : goal.overflow_add-to
overflow_add-to c = let w = copied (goal.at.overflow_add-to c).After-wide in omega (arith, w.sum, c.loop.invariant.3, c.requires.1)

pub loop-preserved : goal.loop-preserved
loop-preserved c =
    let l = c.loop in
    let turns : c.consumer_count-count.result - (l.counter + 1) ≡ c.consumer_count-count.result - l.counter - 1 = omega arith in
    let s = c.args.region.now in
    let n : ℕ = 1 + c.wide.result in
    let w = copied (goal.at.loop-preserved c).After-wide in
    let r : List ℕ = all_names (names_in ((c.consumer_count-count.result - l.counter) - 1) (drop (l.i + 17) s)) in
    let e : c.copy_in.new.d ≡ put l.d l.to (area l.i n s) =
    c.copy_in.ensures ∙ ap (put l.d l.to) (part_is l.i n s) in
    rw turns (
      omega arith,
      c.copy_in.auto.d ∙ l.invariant.1,
      (turn (goal.at.loop-preserved c).After-wide).others,
      omega (arith, w.sum, l.invariant.3),
      ap (λ (x : List ℕ). put x (l.to + n) r) e
          ∙ ap (λ (j : ℕ). put (put l.d l.to (area l.i n s)) (l.to + j) r) (sym w.size)
          ∙ put_append l.d l.to (area l.i n s) r (omega (arith, w.sum, l.invariant.3, l.invariant.1, c.requires.1))
          ∙ ap (put l.d l.to) (sym w.names)
          ∙ l.invariant.4,
    )

pub shape_of-d : goal.shape_of-d
shape_of-d c = c.loop.invariant.1

pub returns : goal.returns
returns c =
    let s = c.args.region.now in
    let l = c.loop in
    let z = names_none s (c.consumer_count-count.result - l.counter) l.i (omega arith) in
    (omega (arith, l.invariant.3, ap length z), sym (put_none l.d l.to) ∙ sym (ap (put l.d l.to) z) ∙ l.invariant.4)
