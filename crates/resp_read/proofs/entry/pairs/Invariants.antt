-- The invariant: what is read is what the pairs that are left give, beside what is counted. Assumes nothing.
use mathlib.Core.Path.{◌≡◌}
use Prim.Native.Nat.{◌+◌, ◌-◌, ◌*◌, ◌≤◌}
use lib.ListN.{length}
use Rattle.resp_read.specs.Answer.{pairs_at}
use Rattle.resp_read.proofs.entry.pairs.Given as goal

abbrev pub invariant-loop : goal.invariant-loop
invariant-loop l =
    (pairs_at 23 1 l.s l.n l.at ≡ pairs_at l.alone l.slip l.s (l.n - l.counter) l.next) × (l.next ≤ length l.s)
    × (l.alone + 2018 * (l.n - l.counter) ≤ 64599) × (l.slip + 2004 * (l.n - l.counter) ≤ 64129)
