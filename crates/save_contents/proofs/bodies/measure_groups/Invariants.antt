-- `measure_groups` meets its contract: the sizes that are there and those that are left are all. Assumes nothing.
use mathlib.Core.Path.{◌≡◌}
use Prim.Native.Nat.{◌≤◌}
use lib.ListN.{length, drop}
use Rattle.octets.specs.Bytes.{zeros}
use Rattle.octets.specs.Place.{put}
use Rattle.group_area.specs.Answer.{groups_in}
use Rattle.save_contents.specs.Measured.{body_sizes}
use Rattle.save_contents.proofs.bodies.measure_groups.Given as goal

abbrev pub invariant-loop-n : goal.invariant-loop-n
invariant-loop-n l = (l.n ≤ length (groups_in l.area)) × (length l.size ≡ 8) × (put l.size l.n (body_sizes (drop l.n (groups_in l.area))) ≡ put (zeros 8) 0 (body_sizes (groups_in l.area)))
