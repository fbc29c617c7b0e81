-- `known` meets its contract. Assumes nothing.
use Rattle.wallathi.proofs.known.known.Goals as goal

pub returns : goal.returns
returns c = record { byte = λ i. (c.type_inv.s i).fits }
