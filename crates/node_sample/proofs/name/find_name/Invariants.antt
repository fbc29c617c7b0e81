-- The invariant: the name is among the strings left, if it is there. Assumes nothing.
use Rattle.node_sample.proofs.Names.{Finding}
use Rattle.node_sample.proofs.name.find_name.Given as goal

abbrev pub invariant-loop-k : goal.invariant-loop-k
invariant-loop-k l = Finding l.name l.s l.n l.at l.k l.to
