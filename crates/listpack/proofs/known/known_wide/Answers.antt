-- Assumes nothing.
use mathlib.Core.Path.{ap, ◌∙◌}
use native.Mathlib.Omega.{arith}
use Rattle.octets.specs.Bytes.{Bytes}
use Rattle.listpack.specs.Width.{extend}
use Rattle.listpack.proofs.Leaves.{tag_16, tag_24, tag_32}
use Rattle.listpack.proofs.There.{two_there, wide_room, wide_room_8, wide_there, wide_8, pattern_by_lem, extend_all}
use Rattle.listpack.proofs.known.known_wide.Goals as goal
use Rattle.listpack.proofs.known.known_wide.Goals.{After-shared_slice_known-1}

bytes : (c : After-shared_slice_known-1) → Bytes c.args.s.now
bytes c = record { byte = λ j. (c.type_inv.s j).fits }

pub overflow_add-at : goal.overflow_add-at
overflow_add-at c = omega (arith, two_there _ _ c.requires.0)

pub read_le-requires : goal.read_le-requires
read_le-requires c = (omega arith, wide_room _ _ (bytes (goal.at.read_le-requires c).After-shared_slice_known-1) c.requires.0 _ c.requires.1 c.requires.2 2 (tag_16 _ (omega arith)) (omega arith))

pub returns-then-b-eq241 : goal.returns-then-b-eq241
returns-then-b-eq241 c = c.extend.ensures ∙ ap (extend 32768) c.read_le.ensures.0 ∙ pattern_by_lem _ _ _ (wide_there _ _ c.requires.0 _ c.requires.1 c.requires.2 2 (tag_16 _ (omega arith)) (omega arith))

pub overflow_add-at-then-b-eq242 : goal.overflow_add-at-then-b-eq242
overflow_add-at-then-b-eq242 c = omega (arith, two_there _ _ c.requires.0)

pub read_le-requires-then-b-eq242 : goal.read_le-requires-then-b-eq242
read_le-requires-then-b-eq242 c = (omega arith, wide_room _ _ (bytes (goal.at.read_le-requires-then-b-eq242 c).After-shared_slice_known-1) c.requires.0 _ c.requires.1 c.requires.2 3 (tag_24 _ (omega arith) (omega arith)) (omega arith))

pub returns-then-b-eq242 : goal.returns-then-b-eq242
returns-then-b-eq242 c = c.extend-then-b-eq242.ensures ∙ ap (extend 8388608) c.read_le-then-b-eq242.ensures.0 ∙ pattern_by_lem _ _ _ (wide_there _ _ c.requires.0 _ c.requires.1 c.requires.2 3 (tag_24 _ (omega arith) (omega arith)) (omega arith))

pub overflow_add-at-then-b-eq243 : goal.overflow_add-at-then-b-eq243
overflow_add-at-then-b-eq243 c = omega (arith, two_there _ _ c.requires.0)

pub read_le-requires-then-b-eq243 : goal.read_le-requires-then-b-eq243
read_le-requires-then-b-eq243 c = (omega arith, wide_room _ _ (bytes (goal.at.read_le-requires-then-b-eq243 c).After-shared_slice_known-1) c.requires.0 _ c.requires.1 c.requires.2 4 (tag_32 _ (omega arith) (omega arith) (omega arith)) (omega arith))

pub returns-then-b-eq243 : goal.returns-then-b-eq243
returns-then-b-eq243 c = c.extend-then-b-eq243.ensures ∙ ap (extend 2147483648) c.read_le-then-b-eq243.ensures.0 ∙ pattern_by_lem _ _ _ (wide_there _ _ c.requires.0 _ c.requires.1 c.requires.2 4 (tag_32 _ (omega arith) (omega arith) (omega arith)) (omega arith))

pub overflow_add-at-2 : goal.overflow_add-at-2
overflow_add-at-2 c = omega (arith, two_there _ _ c.requires.0)

pub read_le-requires-2 : goal.read_le-requires-2
read_le-requires-2 c = (omega arith, wide_room_8 _ _ (bytes (goal.at.read_le-requires-2 c).After-shared_slice_known-1) c.requires.0 _ c.requires.1 c.requires.2 (omega arith) (omega arith) (omega arith))

pub returns : goal.returns
returns c = c.read_le-2.ensures.0 ∙ extend_all _ ∙ pattern_by_lem _ _ _ (wide_8 _ _ c.requires.0 _ c.requires.1 c.requires.2 (omega arith) (omega arith) (omega arith))
