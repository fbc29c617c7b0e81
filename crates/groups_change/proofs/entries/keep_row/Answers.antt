-- `keep_row` meets its contract, by the law of each answer. Assumes nothing.
use mathlib.Core.Path.{sym, ap, ◌∙◌}
use Prim.Native.Nat.{◌-◌}
use native.Mathlib.Omega.{arith}
use lib.ListN.{length}
use Rattle.octets.specs.Place.{put}
use Rattle.octets.proofs.Laws.{put_none, length_area}
use Rattle.groups_change.proofs.Gathered.{row_gone, row_stays}
use Rattle.groups_change.proofs.entries.keep_row.Goals as goal

pub returns-then-place-k : goal.returns-then-place-k
returns-then-place-k c =
    let x = c.args in
    let w = c.wide-place in
    let q = row_gone x.k x.at x.region.now w.result w.ensures.0 c.if-place-k.true in
    (sym (ap length q), omega arith, sym (put_none x.region.now x.to) ∙ ap (put x.region.now x.to) (sym q))

pub returns : goal.returns
returns c =
    let x = c.args in
    let w = c.wide-place in
    let q = row_stays x.k x.at x.region.now w.result w.ensures.0 c.if-place-k.false in (
      sym (ap length q ∙ length_area x.at 27 x.region.now (omega arith)),
      omega arith,
      c.move_row.ensures ∙ ap (put x.region.now x.to) (sym q),
    )
