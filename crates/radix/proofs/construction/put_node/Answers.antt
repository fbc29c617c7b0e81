-- `put_node` meets its contract. Assumes nothing.
use Rattle.radix.proofs.construction.put_node.Goals as goal

pub returns : goal.returns
returns c = rw (c.flag_of.ensures.0, c.unwrap_or.ensures, c.copy_in.ensures)
