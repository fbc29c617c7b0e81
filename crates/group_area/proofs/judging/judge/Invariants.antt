-- `judge` meets its contract: the judgement of the regions that are left is that of the whole. Assumes nothing.
use mathlib.Core.Path.{◌≡◌}
use mathlib.Core.Bool.{not}
use Prim.Native.Nat.{◌+◌, ◌-◌, ◌*◌}
use lib.ListN.{length, drop}
use Rattle.std.proofs.Common.{is_none}
use Rattle.groups.specs.Area.{parse_area}
use Rattle.group_area.proofs.Judgement.{judged_from}
use Rattle.group_area.proofs.judging.judge.Given as goal

abbrev pub invariant-loop : goal.invariant-loop
invariant-loop l = (l.at + (8 - l.counter) * 7220 ≡ 57760) × (length l.s ≡ 57760) × (judged_from l.last l.above (8 - l.counter) (drop l.at l.s) ≡ not (is_none (parse_area l.last l.s)))
