-- The invariant: what is written and what is left is the whole. Assumes nothing.
use mathlib.Core.Path.{◌≡◌}
use mathlib.Core.Bool.{false}
use Prim.Native.Nat.{◌+◌, ◌-◌, ◌≤◌}
use lib.ListN.{length, drop}
use Rattle.std.proofs.Common.{is_none}
use Rattle.octets.specs.Place.{put}
use Rattle.resp.specs.Parse.{cut_pairs}
use Rattle.resp_read.proofs.Messages.{slip_left}
use Rattle.resp_read.proofs.message.write_slip.Given as goal

abbrev pub invariant-loop : goal.invariant-loop
invariant-loop l =
    (is_none (cut_pairs (l.n - l.counter) (drop l.next l.s)) ≡ false) × (length l.out ≡ length l.initial.out)
    × (l.to + length (slip_left l.s (l.n - l.counter) l.next) ≤ length l.out)
    × (put l.out l.to (slip_left l.s (l.n - l.counter) l.next) ≡ put l.initial.out 1 (slip_left l.s l.n l.at))
