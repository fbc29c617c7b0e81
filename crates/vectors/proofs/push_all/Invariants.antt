-- `vectors::push_all` keeps to its slices: the next element's place stays within, and what is left of the strings falls.
-- Assumes nothing.
use Rattle.std.proofs.Common.{◌≡◌, ◌-◌, ◌≤◌, ◌<◌, length}
use Rattle.vectors.proofs.push_all.Given as goal

abbrev pub invariant-loop-i : goal.invariant-loop-i
invariant-loop-i l = (l.i ≤ length l.strings) × (l.count ≤ l.i) × (l.at < length l.d) × (length l.d ≡ length l.initial.d)

abbrev pub decreases-loop-i : goal.decreases-loop-i
decreases-loop-i l = length l.strings - l.i
