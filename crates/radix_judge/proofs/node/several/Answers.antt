-- `several` meets its contract. Assumes nothing.
use mathlib.Core.Bool.{true}
use mathlib.Core.Path.{◌≡◌, sym, ◌∙◌}
use Prim.Native.Nat.{◌<◌, ◌≤◌}
use native.Mathlib.Omega.{arith}
use Rattle.radix.specs.Record.{leads_on}
use Rattle.radix_bytes.specs.Bytes.{pool_in}
use Rattle.radix.proofs.Laws.{leads_to, not_several, by_next}
use Rattle.radix_judge.proofs.node.several.Goals as goal
use Rattle.radix_judge.proofs.node.several.Goals.{Else-not-leads}

on : (c : Else-not-leads) → leads_on c.args.left c.args.link ≡ true
on c = sym c.leads.ensures ∙ c.if-not-leads.false

up : (c : Else-not-leads) → (0 < c.args.left) × (0 < c.args.link) × (c.args.link ≤ 256)
up c = leads_to c.args.left c.args.link (on c)

pub returns-then-not-leads : goal.returns-then-not-leads
returns-then-not-leads c = not_several (pool_in c.args.s.now) _ _ (sym c.leads.ensures ∙ c.if-not-leads.true)

pub overflow_sub-link : goal.overflow_sub-link
overflow_sub-link c = omega (arith, up (goal.at.overflow_sub-link c).Else-not-leads)

pub next_at-later-requires : goal.next_at-later-requires
next_at-later-requires c = (c.requires, omega (arith, up (goal.at.next_at-later-requires c).Else-not-leads))

pub overflow_sub-left : goal.overflow_sub-left
overflow_sub-left c = omega (arith, up (goal.at.overflow_sub-left c).Else-not-leads)

pub returns : goal.returns
returns c = by_next (pool_in c.args.s.now) c.args.left c.args.link c.next_at-later.result c.leads-2.result (on (goal.at.returns c).Else-not-leads) c.next_at-later.ensures.0 c.leads-2.ensures
