-- By the first byte, as the kinds of elements differ. Assumes nothing.
use Rattle.std.proofs.Common.{Some}
use mathlib.Core.Path.{sym, ap, ◌∙◌}
use native.Mathlib.Omega.{arith}
use Rattle.octets.specs.Bytes.{Bytes}
use Rattle.listpack.proofs.There.{two_there}
use Rattle.listpack.proofs.Stored.{tiny_stored, text_stored, short_stored, long_stored, wide_stored}
use Rattle.listpack.proofs.value.known_stored.Goals as goal
use Rattle.listpack.proofs.value.known_stored.Goals.{After-shared_slice_known-1}

bytes : (c : After-shared_slice_known-1) → Bytes c.args.s.now
bytes c = record { byte = λ j. (c.type_inv.s j).fits }

pub bounds-s-at : goal.bounds-s-at
bounds-s-at c = omega (arith, two_there _ _ c.requires)

pub returns-then-b-lt128 : goal.returns-then-b-lt128
returns-then-b-lt128 c = (sym (tiny_stored _ _ (bytes (goal.at.returns-then-b-lt128 c).After-shared_slice_known-1) c.requires _ c.wide-b.ensures.0 c.if-b-lt128.true))

pub returns-then-b-lt192 : goal.returns-then-b-lt192
returns-then-b-lt192 c = (sym (text_stored _ _ (bytes (goal.at.returns-then-b-lt192 c).After-shared_slice_known-1) c.requires _ c.wide-b.ensures.0 (omega arith) (omega arith)))

pub returns-then-b-lt224 : goal.returns-then-b-lt224
returns-then-b-lt224 c = ap Some c.known_integer-p.ensures ∙ (sym (short_stored _ _ (bytes (goal.at.returns-then-b-lt224 c).After-shared_slice_known-1) c.requires _ c.wide-b.ensures.0 (omega arith) (omega arith)))

pub returns-then-b-lt240 : goal.returns-then-b-lt240
returns-then-b-lt240 c = (sym (long_stored _ _ (bytes (goal.at.returns-then-b-lt240 c).After-shared_slice_known-1) c.requires _ c.wide-b.ensures.0 (omega arith) (omega arith)))

pub returns : goal.returns
returns c = ap Some c.known_integer-p-2.ensures ∙ (sym (wide_stored _ _ (bytes (goal.at.returns c).After-shared_slice_known-1) c.requires _ c.wide-b.ensures.0 (omega arith)))
