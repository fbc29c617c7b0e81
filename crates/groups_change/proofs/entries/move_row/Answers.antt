-- `move_row` meets its contract: what is read of four parts is written to four parts. Assumes nothing.
use mathlib.Core.Path.{◌≡◌, ap, ◌∙◌}
use mathlib.Core.List.{List}
use Prim.Native.Nat.{ℕ, ◌+◌, ◌-◌}
use native.Mathlib.Omega.{arith}
use lib.ListN.{length}
use Rattle.octets.specs.Bytes.{Bytes, le}
use Rattle.octets.specs.Place.{put}
use Rattle.groups_change.proofs.Gathered.{row_moved}
use Rattle.groups_change.proofs.entries.move_row.Goals as goal
use Rattle.groups_change.proofs.entries.move_row.Goals.{After-write_le, After-write_le-2, After-write_le-3}

-- the length stays
one : (c : After-write_le) → length c.write_le.new.d ≡ length c.args.region.now
one c = c.write_le.auto.d

two : (c : After-write_le-2) → length c.write_le-2.new.d ≡ length c.args.region.now
two c = let the_one : length c.write_le.new.d ≡ length c.args.region.now = c.write_le.auto.d in c.write_le-2.auto.d ∙ the_one

three : (c : After-write_le-3) → length c.write_le-3.new.d ≡ length c.args.region.now
three c = let the_two : length c.write_le-2.new.d ≡ length c.args.region.now = let the_one : length c.write_le.new.d ≡ length c.args.region.now = c.write_le.auto.d in c.write_le-2.auto.d ∙ the_one in c.write_le-3.auto.d ∙ the_two

pub read_le-a-requires : goal.read_le-a-requires
read_le-a-requires c = (omega arith, omega arith)

pub read_le-b-requires : goal.read_le-b-requires
read_le-b-requires c = (omega arith, omega arith)

pub read_le-c-requires : goal.read_le-c-requires
read_le-c-requires c = (omega arith, omega arith)

pub read_le-d-requires : goal.read_le-d-requires
read_le-d-requires c = (omega arith, omega arith)

pub write_le-requires : goal.write_le-requires
write_le-requires c = (omega arith, omega arith)

pub write_le-requires-2 : goal.write_le-requires-2
write_le-requires-2 c = (omega arith, omega (arith, one (goal.at.write_le-requires-2 c).After-write_le))

pub write_le-requires-3 : goal.write_le-requires-3
write_le-requires-3 c = (omega arith, omega (arith, two (goal.at.write_le-requires-3 c).After-write_le-2))

pub write_le-requires-4 : goal.write_le-requires-4
write_le-requires-4 c = (omega arith, omega (arith, three (goal.at.write_le-requires-4 c).After-write_le-3))

pub shape_of-region : goal.shape_of-region
shape_of-region c = c.write_le-4.auto.d ∙ three (goal.at.shape_of-region c).After-write_le-3

pub returns : goal.returns
returns c =
    let s = c.args.region.now in
    let to = c.args.to in
    let bytes : Bytes s = record { byte = λ j. (c.slice_known-1.given j).fits } in
    let e1 = c.read_le-a.ensures.0 in
    let e2 = c.read_le-b.ensures.0 in
    let e3 = c.read_le-c.ensures.0 in
    let e4 = c.read_le-d.ensures.0 in
    c.write_le-4.ensures
    ∙ ap (λ (l : List ℕ). put l (to + 24) (le 3 c.read_le-d.result))
    (c.write_le-3.ensures
    ∙ ap (λ (l : List ℕ). put l (to + 16) (le 8 c.read_le-c.result))
    (c.write_le-2.ensures ∙ ap (λ (l : List ℕ). put l (to + 8) (le 8 c.read_le-b.result)) c.write_le.ensures))
    ∙ (λ i. put (put (put (put s to (le 8 (e1 i))) (to + 8) (le 8 (e2 i))) (to + 16) (le 8 (e3 i))) (to + 24) (le 3 (e4 i)))
    ∙ row_moved s bytes c.args.at to c.requires.0 c.requires.1
