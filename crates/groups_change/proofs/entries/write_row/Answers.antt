-- `write_row` meets its contract: the parts are put one after the other. Assumes nothing.
use mathlib.Core.Path.{◌≡◌, sym, ap, ◌∙◌}
use mathlib.Core.List.{List}
use Prim.Native.Nat.{ℕ, ◌+◌, ◌*◌, ◌-◌}
use native.Mathlib.Omega.{arith}
use lib.ListN.{length, set, length-set}
use Rattle.octets.specs.Bytes.{le}
use Rattle.octets.specs.Place.{put}
use Rattle.groups_change.proofs.Rows.{row_put_lem}
use Rattle.groups_change.proofs.entries.write_row.Goals as goal
use Rattle.groups_change.proofs.entries.write_row.Goals.{After-write_id, After-write_le}

-- the length stays
one : (c : After-write_id) → let x = c.args in length (set c.write_id.new.d (308 + x.i * 27 + 16) x.place) ≡ 7220
one c = length-set c.write_id.new.d (308 + c.args.i * 27 + 16) c.args.place ∙ c.write_id.auto.d ∙ c.requires.0

two : (c : After-write_le) → length c.write_le.new.d ≡ 7220
two c = let the_one : let x = c.args in length (set c.write_id.new.d (308 + x.i * 27 + 16) x.place) ≡ 7220 = length-set c.write_id.new.d (308 + c.args.i * 27 + 16) c.args.place ∙ c.write_id.auto.d ∙ c.requires.0 in c.write_le.auto.d ∙ the_one

pub write_le-requires : goal.write_le-requires
write_le-requires c = (omega arith, omega (arith, one (goal.at.write_le-requires c).After-write_id))

pub write_le-requires-2 : goal.write_le-requires-2
write_le-requires-2 c = (omega arith, omega (arith, two (goal.at.write_le-requires-2 c).After-write_le))

pub shape_of-region : goal.shape_of-region
shape_of-region c = c.write_le-2.auto.d ∙ two (goal.at.shape_of-region c).After-write_le ∙ sym c.requires.0

pub returns : goal.returns
returns c =
    let a = c.args in
    let at : ℕ = 308 + a.i * 27 in
    c.write_le-2.ensures
    ∙ ap (λ (l : List ℕ). put l (at + 25) (le 2 a.count)) c.write_le.ensures
    ∙ ap (λ (l : List ℕ). put (put (set l (at + 16) a.place) (at + 17) (le 8 a.time)) (at + 25) (le 2 a.count)) c.write_id.ensures
    ∙ row_put_lem a.region.now at a.id a.place a.time a.count (omega (arith, c.requires.0))
