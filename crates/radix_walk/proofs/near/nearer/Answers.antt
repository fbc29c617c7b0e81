-- `nearer` meets its contract. Assumes nothing.
use Rattle.radix_walk.proofs.near.nearer.Goals as goal

pub returns-then-leads : goal.returns-then-leads
returns-then-leads c = rw (← c.leads.ensures, c.if-leads.true)

pub returns : goal.returns
returns c = rw (← c.leads.ensures, c.if-leads.false)
