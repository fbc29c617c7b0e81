-- The sizes of the groups' bodies. Assumes nothing.
use Rattle.std.specs.Prelude.{List, ◌++◌, map, ℕ, ◌-◌, length}
use Rattle.octets.specs.Bytes.{zeros}
use Rattle.groups.specs.Group.{Group}
use Rattle.groups.specs.Bytes.{body_bytes}
use Rattle.groups.specs.Area.{most_groups}
use Rattle.save_contents.specs.declared.GroupSizes.{GroupSizes}

abbrev pub body_sizes : List Group → List ℕ
body_sizes gs = map (λ (g : Group). length (body_bytes g)) gs

abbrev pub group_sizes : List Group → GroupSizes
group_sizes gs = record { n = length gs; size = body_sizes gs ++ zeros (most_groups - length gs) }
