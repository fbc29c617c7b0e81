-- `is_above` meets its contract. Assumes nothing.
use mathlib.Core.Path.{sym, ap, ◌∙◌}
use Prim.Native.Nat.{◌+◌}
use Rattle.octets.specs.Compare.{comes_before}
use Rattle.octets.proofs.Laws.{part_is}
use Rattle.groups.proofs.Laws.{name_at}
use Rattle.group_area.proofs.judging.is_above.Goals as goal

pub returns : goal.returns
returns c =
    let x = c.args in
    let w = c.wide-n in
    c.comes_before.ensures
    ∙ ap (comes_before x.above.now) (part_is (x.at + 1) w.result x.s.now ∙ sym (name_at x.at w.result x.s.now w.ensures.0))
