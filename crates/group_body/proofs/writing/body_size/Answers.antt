-- `body_size` meets its contract: the sizes of the parts add up. Assumes nothing.
use Prim.Native.Nat.{◌-◌}
use native.Mathlib.Omega.{arith}
use Rattle.groups.specs.Parse.{group_in}
use Rattle.group_body.proofs.Outward.{body_of_lem, length_body}
use Rattle.group_body.proofs.writing.body_size.Goals as goal

pub bounds-region-0 : goal.bounds-region-0
bounds-region-0 c = omega (arith, (body_of_lem c.args.region.now c.requires).size)

pub names_size-names-requires : goal.names_size-names-requires
names_size-names-requires c = c.requires

pub pending_count-requires : goal.pending_count-requires
pending_count-requires c = c.requires

pub returns : goal.returns
returns c =
    let b = body_of_lem c.args.region.now c.requires in
    let l = length_body (group_in c.args.region.now) in
    let p = c.pending_count.ensures in
    let n = c.names_size-names.ensures in
    let w = c.wide-n.ensures.0 in
    (omega (arith, b.name_size), omega (arith, b.name_size, b.few_bytes))
