-- Assumes nothing.
use native.Mathlib.Omega.{arith}
use Rattle.octets.specs.Bytes.{Bytes}
use Rattle.listpack.proofs.There.{two_there, size_there}
use Rattle.listpack.proofs.Stored.{tiny_number, wide_number}
use Rattle.listpack.proofs.value.known_number.Goals as goal
use Rattle.listpack.proofs.value.known_number.Goals.{After-shared_slice_known-1}

bytes : (c : After-shared_slice_known-1) → Bytes c.args.s.now
bytes c = record { byte = λ j. (c.type_inv.s j).fits }

pub bounds-s-at : goal.bounds-s-at
bounds-s-at c = omega (arith, two_there _ _ c.requires)

pub overflow_add-result : goal.overflow_add-result
overflow_add-result c = omega (arith, two_there _ _ c.requires)

pub returns-then-b-lt128 : goal.returns-then-b-lt128
returns-then-b-lt128 c = tiny_number _ _ c.requires _ c.wide-b.ensures.0 c.if-b-lt128.true

pub overflow_add-result-2 : goal.overflow_add-result-2
overflow_add-result-2 c = omega (arith, c.known_size.ensures, size_there _ _ (bytes (goal.at.overflow_add-result-2 c).After-shared_slice_known-1) c.requires)

pub returns : goal.returns
returns c = wide_number _ _ _ _ c.known_integer-pattern.ensures c.known_size.ensures
