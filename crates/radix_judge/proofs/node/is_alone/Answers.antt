-- `is_alone` meets its contract. Assumes nothing.
use mathlib.Core.Path.{sym}
use Rattle.radix_bytes.specs.Bytes.{pool_in}
use Rattle.radix.proofs.Laws.{nil_leads}
use Rattle.radix_judge.proofs.node.is_alone.Goals as goal

pub returns-then-not-first : goal.returns-then-not-first
returns-then-not-first c = rw c.if-not-first.true

pub returns : goal.returns
returns c = let x = c.args in rw (c.if-not-first.false, ← c.next_at-later.ensures.0) (sym (nil_leads (pool_in x.s.now) x.left c.next_at-later.result c.leads.result (sym c.leads.ensures)))
