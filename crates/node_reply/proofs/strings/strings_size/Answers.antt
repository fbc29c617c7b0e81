use mathlib.Core.Path.{◌≡◌, ap}
use native.Mathlib.Omega.{arith}
use Rattle.std.proofs.Math.Nat.{sub-zero}
use Prim.Native.Nat.{ℕ, ◌+◌, ◌-◌}
use Rattle.octets.specs.Bytes.{Bytes}
use Rattle.listpack.specs.Known.{string_at}
use Rattle.listpack.proofs.Laws.{first_element, size_there, after_is}
use Rattle.node_reply.specs.Sizes.{strings_size}
use Rattle.node_reply.proofs.Bulks.{size_next, size_end, others_there}
use Rattle.node_reply.proofs.strings.strings_size.Goals as goal
use Rattle.node_reply.proofs.strings.strings_size.Goals.{After-shared_slice_known-1}

bytes : (c : After-shared_slice_known-1) → Bytes c.args.s.now
bytes c = record { byte = λ j. (c.type_inv.s j).fits }

pub loop-init : goal.loop-init
loop-init c = rw sub-zero (c.requires.0, omega arith, omega arith)

pub string_len-requires : goal.string_len-requires
string_len-requires c = first_element (c.args.n - c.loop.counter) _ _ (omega (arith, c.loop-test.true)) c.loop.invariant.0.there

pub bulk_size-size-requires : goal.bulk_size-size-requires
bulk_size-size-requires c = c.string_len.ensures.1

pub overflow_add-size : goal.overflow_add-size
overflow_add-size c = omega (arith, c.requires.1, c.loop.invariant.2, c.loop-test.true, c.string_len.ensures.1, c.bulk_size-size.ensures.1)

pub known_size-to-requires : goal.known_size-to-requires
known_size-to-requires c = first_element (c.args.n - c.loop.counter) _ _ (omega (arith, c.loop-test.true)) c.loop.invariant.0.there

pub overflow_add-to : goal.overflow_add-to
overflow_add-to c = omega (arith, size_there _ _ (bytes (goal.at.overflow_add-to c).After-shared_slice_known-1) (first_element (c.args.n - c.loop.counter) _ _ (omega (arith, c.loop-test.true)) c.loop.invariant.0.there), c.known_size-to.ensures)

pub loop-preserved : goal.loop-preserved
loop-preserved c =
    let s = c.args.s.now in
    let l = c.loop in
    let i = after_is s l.to _ c.known_size-to.ensures in
    let left : ℕ = c.args.n - l.counter in
    let m : left - 1 ≡ c.args.n - (l.counter + 1) = omega arith in
    rw (← m) (
      others_there s left l.to _ (omega (arith, c.loop-test.true)) l.invariant.0 i,
      omega (arith, l.invariant.1, size_next s left l.to (omega (arith, c.loop-test.true)), c.bulk_size-size.ensures.0 (string_at s l.to) c.string_len.ensures.0, ap (strings_size (left - 1) s) i),
      omega (arith, l.invariant.2, c.loop-test.true, c.string_len.ensures.1, c.bulk_size-size.ensures.1),
    )

pub returns : goal.returns
returns c = let l = c.loop in (omega (arith, l.invariant.1, size_end c.args.s.now (c.args.n - l.counter) l.to (omega (arith, c.loop-test.false))), omega (arith, l.invariant.2))
