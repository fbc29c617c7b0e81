-- `gather_others` meets its contract: what is done and what is left are the rows of the whole. Assumes nothing.
use Prim.Native.Nat.{◌-◌}
use Rattle.groups_change.proofs.Gathered.{Gathering}
use Rattle.groups_change.proofs.entries.gather_others.Given as goal

abbrev pub invariant-loop : goal.invariant-loop
invariant-loop l = Gathering l.initial.region l.k l.n l.region l.at (l.n - l.counter) l.kept
