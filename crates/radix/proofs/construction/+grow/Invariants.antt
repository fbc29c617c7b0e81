-- The measure of `grow`: how many more levels it may lay. Assumes nothing.
use Rattle.radix.proofs.construction.+grow.Given as goal

abbrev pub decreases-grow : goal.decreases-grow
decreases-grow l = l.left
