use mathlib.Core.Path.{◌≡◌, refl, sym, ap, ◌∙◌}
use mathlib.Core.List.{List}
use Prim.Native.Nat.{ℕ, ◌+◌, ◌-◌, ◌*◌}
use native.Mathlib.Omega.{arith}
use lib.ListN.{length, take, drop, get_or}
use Rattle.octets.specs.Bytes.{zeros}
use Rattle.octets.specs.Place.{area, put}
use Rattle.octets.proofs.Laws.{put_none, put_append, part_is}
use Rattle.groups.specs.Bytes.{padded, all_name_fields}
use Rattle.group_body.specs.Answer.{names_at}
use Rattle.group_body.proofs.Inward.{NameTurn, name_turn, no_names, no_fields, fields_size, fields_padded}
use Rattle.groups.proofs.Laws.{length_padded}
use Rattle.group_body.proofs.reading.read_names.Goals as goal
use Rattle.group_body.proofs.reading.read_names.Goals.{After-wide}

turn : (c : After-wide) → NameTurn c.args.s.now (c.args.count - c.loop.counter) c.loop.i (1 + c.wide.result)
turn c =
    let s = c.args.s.now in
    let l = c.loop in
    name_turn s (c.args.count - l.counter) l.i (1 + c.wide.result) (omega arith) (omega (arith, c.wide.ensures.0)) l.invariant.0 l.invariant.3

pub loop-init : goal.loop-init
loop-init c =
    let p = c.requires in
    let none : c.args.count - 0 ≡ c.args.count = omega arith in
    rw none (p.2, omega arith, refl, p.3, refl, refl)

pub bounds-s-i : goal.bounds-s-i
bounds-s-i c =
    let s = c.args.s.now in
    let l = c.loop in
    omega (arith, (name_turn s (c.args.count - l.counter) l.i (1 + get_or s l.i 0) (omega arith) refl l.invariant.0 l.invariant.3).within)

pub wide-requires : goal.wide-requires
wide-requires c = search

pub overflow_add-i : goal.overflow_add-i
overflow_add-i c = omega (arith, (turn (goal.at.overflow_add-i c).After-wide).within)

pub slice_bounds-copy_padded-end : goal.slice_bounds-copy_padded-end
slice_bounds-copy_padded-end c = omega (arith, (turn (goal.at.slice_bounds-copy_padded-end c).After-wide).within)

pub copy_padded-requires : goal.copy_padded-requires
copy_padded-requires c =
    let l = c.loop in
    let s = c.args.s.now in
    let n : ℕ = 1 + c.wide.result in
    let w = turn (goal.at.copy_padded-requires c).After-wide in
    let q : length (take (l.i + n - l.i) (drop l.i s)) ≡ n = ap length (part_is l.i n s) ∙ w.size in
    let p = c.requires in
    (omega (arith, q, w.few_bytes), omega (arith, l.invariant.1, l.invariant.2, p.0, p.1))

pub overflow_add-i-in-loop : goal.overflow_add-i-in-loop
overflow_add-i-in-loop c = omega (arith, (turn (goal.at.overflow_add-i-in-loop c).After-wide).within)

pub loop-preserved : goal.loop-preserved
loop-preserved c =
    let l = c.loop in
    let turns : c.args.count - (l.counter + 1) ≡ c.args.count - l.counter - 1 = omega arith in
    let s = c.args.s.now in
    let n : ℕ = 1 + c.wide.result in
    let w = turn (goal.at.loop-preserved c).After-wide in
    let a : List ℕ = padded 17 (area l.i n s) in
    let r : List ℕ = all_name_fields (names_at ((c.args.count - l.counter) - 1) (drop (l.i + n) s)) in
    let k : length a ≡ 17 = length_padded 17 (area l.i n s) (omega (arith, w.size, w.few_bytes)) in
    let e : c.copy_padded.new.d ≡ put l.region l.to a =
    c.copy_padded.ensures ∙ ap (λ (x : List ℕ). put l.region l.to (padded 17 x)) (part_is l.i n s) in
    rw turns (
      w.within,
      omega (arith, l.invariant.1),
      c.copy_padded.auto.d ∙ l.invariant.2,
      w.others,
      omega (arith, w.sum, l.invariant.4),
      ap (λ (x : List ℕ). put x (l.to + 17) r) e
          ∙ ap (λ (j : ℕ). put (put l.region l.to a) (l.to + j) r) (sym k)
          ∙ put_append l.region l.to a r (omega (arith, l.invariant.1, l.invariant.2, c.requires.0, c.requires.1))
          ∙ ap (put l.region l.to) (sym w.fields)
          ∙ l.invariant.5,
    )

pub overflow_sub-to : goal.overflow_sub-to
overflow_sub-to c = omega (arith, c.loop.invariant.1, c.requires.1)

pub zero-requires : goal.zero-requires
zero-requires c = let l = c.loop in omega (arith, l.invariant.1, l.invariant.2, c.requires.0, c.requires.1)

pub shape_of-region : goal.shape_of-region
shape_of-region c = c.zero.auto.d ∙ c.loop.invariant.2

pub returns : goal.returns
returns c =
    let s = c.args.s.now in
    let d = c.args.region.now in
    let l = c.loop in
    let f : List ℕ = all_name_fields (names_at c.args.count (drop c.args.at s)) in
    let e : l.region ≡ put d 34 f =
    sym (put_none l.region l.to) ∙ ap (put l.region l.to) (sym (no_fields (c.args.count - l.counter) (drop l.i s) (omega arith))) ∙ l.invariant.5 in
    let k : length f ≡ c.args.count * 17 = fields_size c.args.count (drop c.args.at s) c.requires.3 in (
      omega (arith, l.invariant.4, ap length (no_names (c.args.count - l.counter) (drop l.i s) (omega arith))),
      c.zero.ensures
          ∙ ap (λ (y : List ℕ). put y l.to (zeros (306 - l.to))) e
          ∙ fields_padded d f l.to (omega (arith, l.invariant.1, k)) (omega (arith, c.requires.0)),
    )
