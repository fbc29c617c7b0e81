use mathlib.Core.Path.{refl, sym, ap, ◌∙◌}
use mathlib.Core.List.{List, ◌++◌}
use Rattle.std.proofs.Math.Nat.{sub-zero}
use Prim.Native.Nat.{ℕ, ◌+◌, ◌-◌, ◌≤◌}
use native.Mathlib.Omega.{arith}
use lib.ListN.{length, length-set}
use Rattle.octets.specs.Place.{area, put}
use Rattle.octets.proofs.Laws.{put_none, put_first}
use Rattle.slip.specs.Slip.{slip_string}
use Rattle.resp_read.proofs.Parts.{IsBulk, bulk_at_lem}
use Rattle.resp_read.proofs.Messages.{is_there, slip_left, slip_none, slip_whole, field_there, value_there, Turn, turn, turn_length, lent_length, lent_put}
use Rattle.resp_read.proofs.message.write_slip.Goals as goal
use Rattle.resp_read.proofs.message.write_slip.Goals.{After-head_size, After-head_size-in-loop, After-shared_slice_known-1}

-- there is room for the number of pairs and the pairs
room : (c : After-shared_slice_known-1) → let x = c.args in 1 + length (slip_left x.s.now x.n x.at) ≤ length x.out.now
room c = let x = c.args in omega (arith, c.requires.2, ap length (slip_whole x.s.now x.n x.at c.requires.0))

-- the pair that is written: its strings are there
field : (c : After-head_size) → IsBulk c.args.s.now c.loop.next c.unwrap-a.result (c.loop.next + c.head_size.result)
field c = bulk_at_lem _ _ _ (sym c.unwrap-a.ensures ∙ c.bulk.ensures) _ (c.head_size.ensures.0 36)

pair : (c : After-head_size-in-loop) → let from = c.loop.next + c.head_size.result in
    let a = c.unwrap-a.result in
    Turn c.args.s.now (c.args.n - c.loop.counter) (c.args.n - (c.loop.counter + 1)) c.loop.next a from c.unwrap-b.result (from + a + 2 + c.head_size-in-loop.result)
pair c =
    let f = bulk_at_lem _ _ _ (sym c.unwrap-a.ensures ∙ c.bulk.ensures) _ (c.head_size.ensures.0 36) in
    turn _ _ _ (omega arith) c.loop.invariant.0 f (bulk_at_lem _ _ _ (sym c.unwrap-b.ensures ∙ c.bulk-in-loop.ensures) _ (c.head_size-in-loop.ensures.0 36)) _ (omega arith)

pub overflow_cast-out : goal.overflow_cast-out
overflow_cast-out c = omega (arith, c.requires.1)

pub bounds-out-0 : goal.bounds-out-0
bounds-out-0 c = omega (arith, room (goal.at.bounds-out-0 c).After-shared_slice_known-1)

pub loop-init : goal.loop-init
loop-init c =
    let x = c.args in
    rw sub-zero (c.requires.0, refl, omega (arith, room (goal.at.loop-init c).After-shared_slice_known-1, length-set x.out.now 0 x.n), refl)

pub unwrap-a-requires : goal.unwrap-a-requires
unwrap-a-requires c = is_there _ _ c.bulk.ensures (field_there _ _ _ (omega arith) c.loop.invariant.0)

pub overflow_add-from : goal.overflow_add-from
overflow_add-from c = omega (arith, field (goal.at.overflow_add-from c).After-head_size)

pub overflow_add-mid : goal.overflow_add-mid
overflow_add-mid c = omega (arith, field (goal.at.overflow_add-mid c).After-head_size)

pub overflow_add-mid-in-loop : goal.overflow_add-mid-in-loop
overflow_add-mid-in-loop c = omega (arith, field (goal.at.overflow_add-mid-in-loop c).After-head_size)

pub unwrap-b-requires : goal.unwrap-b-requires
unwrap-b-requires c = is_there _ _ c.bulk-in-loop.ensures (value_there _ _ _ (omega arith) c.loop.invariant.0 (field (goal.at.unwrap-b-requires c).After-head_size))

pub overflow_add-start : goal.overflow_add-start
overflow_add-start c = omega (arith, field (goal.at.overflow_add-start c).After-head_size)

pub overflow_add-start-in-loop : goal.overflow_add-start-in-loop
overflow_add-start-in-loop c = omega (arith, (pair (goal.at.overflow_add-start-in-loop c).After-head_size-in-loop).value)

pub overflow_add-end : goal.overflow_add-end
overflow_add-end c = omega (arith, (pair (goal.at.overflow_add-end c).After-head_size-in-loop).value)

pub slice_bounds-write_slip_string-end : goal.slice_bounds-write_slip_string-end
slice_bounds-write_slip_string-end c = omega (arith, field (goal.at.slice_bounds-write_slip_string-end c).After-head_size)

pub write_slip_string-to-requires : goal.write_slip_string-to-requires
write_slip_string-to-requires c = let t = pair (goal.at.write_slip_string-to-requires c).After-head_size-in-loop in omega (arith, lent_length t.field, turn_length t, c.loop.invariant.2)

pub slice_bounds-write_slip_string-end-in-loop : goal.slice_bounds-write_slip_string-end-in-loop
slice_bounds-write_slip_string-end-in-loop c = omega (arith, (pair (goal.at.slice_bounds-write_slip_string-end-in-loop c).After-head_size-in-loop).value)

pub write_slip_string-to-requires-in-loop : goal.write_slip_string-to-requires-in-loop
write_slip_string-to-requires-in-loop c =
    let t = pair (goal.at.write_slip_string-to-requires-in-loop c).After-head_size-in-loop in
    omega (arith, lent_length t.field, lent_length t.value, turn_length t, c.loop.invariant.2, c.write_slip_string-to.ensures.0, c.write_slip_string-to.auto.d)

pub overflow_add-next : goal.overflow_add-next
overflow_add-next c = omega (arith, (pair (goal.at.overflow_add-next c).After-head_size-in-loop).value)

pub loop-preserved : goal.loop-preserved
loop-preserved c =
    let x = c.args in
    let l = c.loop in
    let t = pair (goal.at.loop-preserved c).After-head_size-in-loop in
    let w = c.write_slip_string-to in
    let v = c.write_slip_string-to-in-loop in
    let b : ℕ = c.unwrap-b.result in
    let start : ℕ = l.next + c.head_size.result + c.unwrap-a.result + 2 + c.head_size-in-loop.result in
    let rest : List ℕ = slip_left x.s.now (x.n - (l.counter + 1)) (start + b + 2) in (
      t.more,
      v.auto.d ∙ w.auto.d ∙ l.invariant.1,
      omega (arith, lent_length t.field, lent_length t.value, turn_length t, l.invariant.2, w.ensures.0, v.ensures.0, w.auto.d, v.auto.d),
      lent_put t.value _ _ rest _ _ v.ensures.0 v.ensures.1 (omega (arith, lent_length t.field, turn_length t, l.invariant.2, w.ensures.0, w.auto.d))
          ∙ lent_put t.field _ _ (slip_string (area start b x.s.now) ++ rest) _ _ w.ensures.0 w.ensures.1 (omega (arith, l.invariant.2))
          ∙ ap (put l.out l.to) (sym t.left_is)
          ∙ l.invariant.3,
    )

pub shape_of-out : goal.shape_of-out
shape_of-out c = let x = c.args in c.loop.invariant.1 ∙ length-set x.out.now 0 x.n

pub returns : goal.returns
returns c =
    let x = c.args in
    let l = c.loop in
    sym (put_none l.out l.to) ∙ ap (put l.out l.to) (sym (slip_none x.s.now (x.n - l.counter) l.next (omega arith))) ∙ l.invariant.3
    ∙ sym (put_first x.out.now 0 x.n (slip_left x.s.now x.n x.at) (omega (arith, room (goal.at.returns c).After-shared_slice_known-1)))
    ∙ ap (put x.out.now 0) (sym (slip_whole x.s.now x.n x.at c.requires.0))
