-- `write_body` meets its contract by the law of its steps. Assumes nothing.
use mathlib.Core.Path.{◌≡◌, ap, ap₂, ◌∙◌}
use mathlib.Core.List.{List}
use Prim.Native.Nat.{ℕ, ◌+◌, ◌-◌, ◌*◌, ◌≤◌}
use native.Mathlib.Omega.{arith}
use lib.ListN.{length, take, drop}
use Rattle.octets.specs.Place.{area, put}
use Rattle.octets.proofs.Laws.{part_area, length_area, part_is}
use Rattle.groups.specs.Bytes.{all_names, body_bytes}
use Rattle.groups.specs.Parse.{group_in}
use Rattle.group_body.proofs.Outward.{body_of_lem, length_body, written}
use Rattle.group_body.proofs.writing.write_body.Goals as goal
use Rattle.group_body.proofs.writing.write_body.Goals.{After-copy_in, After-copy_in-2, After-copy_in-arg-6-1, After-wide, After-write_names-end}

-- what is known once the length of the name is read
record Known (s d : List ℕ) (at n : ℕ) : Type 0 where
  size : length s ≡ 7220
  named : n ≡ 1 + length (group_in s).name
  short : n ≤ 17
  few : length (group_in s).pending ≤ 256
  room : at + n + 17 + length (all_names (group_in s).consumers) + (2 + length (group_in s).pending * 27) ≤ length d
  body : at + length (body_bytes (group_in s)) ≡ at + n + 17 + length (all_names (group_in s).consumers) + (2 + length (group_in s).pending * 27)
  front : take (n - 0) (drop 0 s) ≡ area 0 n s
  front_size : length (take (n - 0) (drop 0 s)) ≡ n
  middle_size : length (take 17 (drop 17 s)) ≡ 17

known : (c : After-wide) → let x = c.args in Known x.region.now x.d.now x.at (1 + c.wide.result)
known c =
    let s = c.args.region.now in
    let n : ℕ = 1 + c.wide.result in
    let b = body_of_lem s c.requires.0 in
    let l = length_body (group_in s) in
    let w : c.wide.result ≡ length (group_in s).name = c.wide.ensures.0 ∙ b.name_size in
    let h = c.requires.1 in
    let z : n - 0 ≡ n = omega arith in
    let f : take (n - 0) (drop 0 s) ≡ area 0 n s = ap (λ (j : ℕ). take j (drop 0 s)) z ∙ part_area 0 n s in
    record {
      size = b.size;
      named = omega arith;
      short = omega (arith, b.few_bytes);
      few = b.room;
      room = omega arith;
      body = omega arith;
      front = f;
      front_size = ap length f ∙ length_area 0 n s (omega (arith, b.few_bytes, b.size));
      middle_size = ap length (part_area 17 17 s) ∙ length_area 17 17 s (omega (arith, b.size));
    }

-- the output keeps its length
first : (c : After-copy_in) → length c.copy_in.new.d ≡ length c.args.d.now
first c = c.copy_in.auto.d

second : (c : After-copy_in-2) → length c.copy_in-2.new.d ≡ length c.args.d.now
second c = let the_first : length c.copy_in.new.d ≡ length c.args.d.now = c.copy_in.auto.d in c.copy_in-2.auto.d ∙ the_first

third : (c : After-write_names-end) → length c.write_names-end.new.d ≡ length c.args.d.now
third c = let the_second : length c.copy_in-2.new.d ≡ length c.args.d.now = let the_first : length c.copy_in.new.d ≡ length c.args.d.now = c.copy_in.auto.d in c.copy_in-2.auto.d ∙ the_first in c.write_names-end.auto.d ∙ the_second

-- the entries that are copied
rows : (c : After-copy_in-arg-6-1) → let s = c.args.region.now in
    let m = 2 + c.pending_count.result * 27 in length (take (306 + m - 306) (drop 306 s)) ≡ m
rows c =
    let the_known : let x = c.args in Known x.region.now x.d.now x.at (1 + c.wide.result) = let s = c.args.region.now in
    let n : ℕ = 1 + c.wide.result in
    let b = body_of_lem s c.requires.0 in
    let l = length_body (group_in s) in
    let w : c.wide.result ≡ length (group_in s).name = c.wide.ensures.0 ∙ b.name_size in
    let h = c.requires.1 in
    let z : n - 0 ≡ n = omega arith in
    let f : take (n - 0) (drop 0 s) ≡ area 0 n s = ap (λ (j : ℕ). take j (drop 0 s)) z ∙ part_area 0 n s in
    record {
      size = b.size;
      named = omega arith;
      short = omega (arith, b.few_bytes);
      few = b.room;
      room = omega arith;
      body = omega arith;
      front = f;
      front_size = ap length f ∙ length_area 0 n s (omega (arith, b.few_bytes, b.size));
      middle_size = ap length (part_area 17 17 s) ∙ length_area 17 17 s (omega (arith, b.size));
    } in let s = c.args.region.now in
    let m : ℕ = 2 + c.pending_count.result * 27 in
    ap length (part_is 306 m s) ∙ length_area 306 m s (omega (arith, (the_known).size, c.pending_count.ensures.1))

pub bounds-region-0 : goal.bounds-region-0
bounds-region-0 c = omega (arith, (body_of_lem c.args.region.now c.requires.0).size)

pub slice_bounds-copy_in-end : goal.slice_bounds-copy_in-end
slice_bounds-copy_in-end c = omega (arith, (known (goal.at.slice_bounds-copy_in-end c).After-wide).short, (known (goal.at.slice_bounds-copy_in-end c).After-wide).size)

pub copy_in-requires : goal.copy_in-requires
copy_in-requires c = let k = known (goal.at.copy_in-requires c).After-wide in omega (arith, k.front_size, k.room)

pub overflow_add-at : goal.overflow_add-at
overflow_add-at c = omega (arith, (known (goal.at.overflow_add-at c).After-wide).room)

pub slice_bounds-copy_in-end-2 : goal.slice_bounds-copy_in-end-2
slice_bounds-copy_in-end-2 c = omega (arith, (known (goal.at.slice_bounds-copy_in-end-2 c).After-wide).size)

pub copy_in-requires-2 : goal.copy_in-requires-2
copy_in-requires-2 c = let k = known (goal.at.copy_in-requires-2 c).After-wide in omega (arith, k.middle_size, k.room, first (goal.at.copy_in-requires-2 c).After-copy_in)

pub overflow_add-at-2 : goal.overflow_add-at-2
overflow_add-at-2 c = omega (arith, (known (goal.at.overflow_add-at-2 c).After-wide).room)

pub overflow_add-at-3 : goal.overflow_add-at-3
overflow_add-at-3 c = omega (arith, (known (goal.at.overflow_add-at-3 c).After-wide).room)

pub write_names-end-requires : goal.write_names-end-requires
write_names-end-requires c = (c.requires.0, omega (arith, (known (goal.at.write_names-end-requires c).After-wide).room, second (goal.at.write_names-end-requires c).After-copy_in-2))

pub pending_count-requires : goal.pending_count-requires
pending_count-requires c = c.requires.0

pub overflow_mul-size : goal.overflow_mul-size
overflow_mul-size c = omega (arith, c.pending_count.ensures.1)

pub overflow_add-size : goal.overflow_add-size
overflow_add-size c = omega (arith, c.pending_count.ensures.1)

pub overflow_add-size-2 : goal.overflow_add-size-2
overflow_add-size-2 c = omega (arith, c.pending_count.ensures.1)

pub slice_bounds-copy_in-end-3 : goal.slice_bounds-copy_in-end-3
slice_bounds-copy_in-end-3 c = omega (arith, c.pending_count.ensures.1, (known (goal.at.slice_bounds-copy_in-end-3 c).After-wide).size)

pub copy_in-requires-3 : goal.copy_in-requires-3
copy_in-requires-3 c = omega (arith, rows (goal.at.copy_in-requires-3 c).After-copy_in-arg-6-1, (known (goal.at.copy_in-requires-3 c).After-wide).room, c.write_names-end.ensures.0, c.pending_count.ensures.0, third (goal.at.copy_in-requires-3 c).After-write_names-end)

pub overflow_add-result : goal.overflow_add-result
overflow_add-result c = omega (arith, (known (goal.at.overflow_add-result c).After-wide).room, c.write_names-end.ensures.0, c.pending_count.ensures.0)

pub shape_of-d : goal.shape_of-d
shape_of-d c = c.copy_in-3.auto.d ∙ third (goal.at.shape_of-d c).After-write_names-end

pub returns : goal.returns
returns c =
    let s = c.args.region.now in
    let d = c.args.d.now in
    let n : ℕ = 1 + c.wide.result in
    let p = c.pending_count in
    let e = c.write_names-end in
    let k = known (goal.at.returns c).After-wide in
    let names : List ℕ = all_names (group_in s).consumers in
    let d1 : c.copy_in.new.d ≡ put d c.args.at (area 0 n s) = c.copy_in.ensures ∙ ap (put d c.args.at) k.front in
    let d2 : c.copy_in-2.new.d ≡ put (put d c.args.at (area 0 n s)) (c.args.at + n) (area 17 17 s) =
    c.copy_in-2.ensures ∙ ap₂ (λ (l m : List ℕ). put l (c.args.at + n) m) d1 (part_area 17 17 s) in (
      omega (arith, k.body, e.ensures.0, p.ensures.0),
      c.copy_in-3.ensures
          ∙ ap₂ (λ (l m : List ℕ). put l e.result m) (e.ensures.1 ∙ ap (λ (l : List ℕ). put l (c.args.at + n + 17) names) d2) (part_is 306 (2 + p.result * 27) s)
          ∙ written s d c.args.at n p.result e.result c.requires.0 c.requires.1 k.named p.ensures.0 e.ensures.0,
    )
