use mathlib.Core.Bool.{true}
use mathlib.Core.Path.{◌≡◌, refl, sym, ◌∙◌}
use Prim.Native.Nat.{◌≤◌, ◌<◌}
use native.Mathlib.Omega.{arith}
use Rattle.radix.specs.Record.{leads_on}
use Rattle.radix_bytes.specs.Bytes.{pool_in}
use Rattle.radix.proofs.Laws.{leads_to}
use Rattle.radix_walk.proofs.Paths.{last_none, last_here, last_later}
use Rattle.radix_walk.proofs.near.last_of.Goals as goal
use Rattle.radix_walk.proofs.near.last_of.Goals.{In-loop-later}

on : (c : In-loop-later) → leads_on c.loop-later.rest c.loop-later.at ≡ true
on c = sym c.leads.ensures ∙ c.loop-later-test.true

up : (c : In-loop-later) → (0 < c.loop-later.rest) × (0 < c.loop-later.at) × (c.loop-later.at ≤ 256)
up c = leads_to c.loop-later.rest c.loop-later.at (on c)

pub loop-later-init : goal.loop-later-init
loop-later-init c = (omega arith, λ before. refl)

pub overflow_sub-at : goal.overflow_sub-at
overflow_sub-at c = omega (arith, up (goal.at.overflow_sub-at c).In-loop-later)

pub next_at-later-requires : goal.next_at-later-requires
next_at-later-requires c = (c.requires, omega (arith, up (goal.at.next_at-later-requires c).In-loop-later))

pub overflow_sub-rest : goal.overflow_sub-rest
overflow_sub-rest c = omega (arith, up (goal.at.overflow_sub-rest c).In-loop-later)

pub returns-then-not-leads : goal.returns-then-not-leads
returns-then-not-leads c =
    let l = c.loop-later in
    record {
      within = l.invariant.0;
      last = λ before. l.invariant.1 before
          ∙ last_here (pool_in c.args.s.now) before l.rest l.at (on (goal.at.returns-then-not-leads c).In-loop-later) c.next_at-later.result c.next_at-later.ensures.0 (sym c.leads-in-loop-later.ensures ∙ c.if-not-leads.true);
    }

pub overflow_sub-rest-in-loop-later : goal.overflow_sub-rest-in-loop-later
overflow_sub-rest-in-loop-later c = omega (arith, up (goal.at.overflow_sub-rest-in-loop-later c).In-loop-later)

pub loop-later-smaller : goal.loop-later-smaller
loop-later-smaller c = omega (arith, up (goal.at.loop-later-smaller c).In-loop-later)

pub loop-later-preserved : goal.loop-later-preserved
loop-later-preserved c =
    let l = c.loop-later in (
      omega (arith, l.invariant.0),
      λ before. l.invariant.1 before
          ∙ last_later (pool_in c.args.s.now) before l.rest l.at (on (goal.at.loop-later-preserved c).In-loop-later) c.next_at-later.result c.next_at-later.ensures.0 (sym c.leads-in-loop-later.ensures ∙ c.if-not-leads.false),
    )

pub returns : goal.returns
returns c =
    let l = c.loop-later in
    record { within = l.invariant.0; last = λ before. l.invariant.1 before ∙ last_none (pool_in c.args.s.now) before l.rest l.at (sym c.leads.ensures ∙ c.loop-later-test.false) }
