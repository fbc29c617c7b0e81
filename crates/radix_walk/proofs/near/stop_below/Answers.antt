use mathlib.Core.Bool.{true}
use mathlib.Core.Path.{◌≡◌, sym, ap, ◌∙◌}
use mathlib.Core.List.{List}
use Prim.Native.Nat.{ℕ, ◌+◌, ◌-◌, ◌≤◌, ◌<◌}
use native.Mathlib.Omega.{arith}
use lib.Dec.{eqb}
use lib.ListN.{length, take, drop, get_or}
use Rattle.octets.specs.Place.{area}
use Rattle.octets.specs.Compare.{order_of}
use Rattle.radix.specs.Record.{leads_on}
use Rattle.radix_bytes.specs.Bytes.{pool_in}
use Rattle.radix_bytes.proofs.Laws.{label_in, label_size}
use Rattle.radix_walk.specs.Neighbours.{stop_at, greatest_from}
use Rattle.radix.proofs.Laws.{leads_to}
use Rattle.radix_walk.proofs.Stops.{Met, into_fits, last_next, last_into, last_end, last_start, last_stop, lead_within}
use Rattle.radix_walk.proofs.near.stop_below.Goals as goal
use Rattle.radix_walk.proofs.near.stop_below.Goals.{After-side, In-Equal, In-loop-p}

on : (c : In-loop-p) → leads_on c.loop-p.left c.loop-p.at ≡ true
on c = sym c.leads.ensures ∙ c.loop-p-test.true

up : (c : In-loop-p) → (0 < c.loop-p.left) × (0 < c.loop-p.at) × (c.loop-p.at ≤ 256)
up c = leads_to c.loop-p.left c.loop-p.at (on c)

met : (c : After-side) → Met (pool_in c.args.s.now) c.args.k.now c.loop-p.left c.loop-p.at c.loop-p.i c.label_len-n.result c.side.result
met c =
    let the_on : leads_on c.loop-p.left c.loop-p.at ≡ true = sym c.leads.ensures ∙ c.loop-p-test.true in let the_up : (0 < c.loop-p.left) × (0 < c.loop-p.at) × (c.loop-p.at ≤ 256) = let the_on : leads_on c.loop-p.left c.loop-p.at ≡ true = sym c.leads.ensures ∙ c.loop-p-test.true in leads_to c.loop-p.left c.loop-p.at (the_on) in let x = c.args in
    let l = c.loop-p in
    record {
      size = label_size x.s.now c.requires;
      on = the_on;
      within = l.invariant.0;
      bytes = c.label_len-n.ensures.0;
      test = c.side.ensures ∙ ap (λ (y : List ℕ). order_of y (area l.i c.label_len-n.result x.k.now)) (label_in x.s.now (l.at - 1) c.label_len-n.result (omega (arith, the_up)) c.label_len-n.ensures.1);
    }

fits : (c : In-Equal) → c.loop-p.i + c.label_len-n.result ≤ length c.args.k.now
fits c =
    let the_met : Met (pool_in c.args.s.now) c.args.k.now c.loop-p.left c.loop-p.at c.loop-p.i c.label_len-n.result c.side.result = let the_on : leads_on c.loop-p.left c.loop-p.at ≡ true = sym c.leads.ensures ∙ c.loop-p-test.true in let the_up : (0 < c.loop-p.left) × (0 < c.loop-p.at) × (c.loop-p.at ≤ 256) = let the_on : leads_on c.loop-p.left c.loop-p.at ≡ true = sym c.leads.ensures ∙ c.loop-p-test.true in leads_to c.loop-p.left c.loop-p.at (the_on) in let x = c.args in
    let l = c.loop-p in
    record {
      size = label_size x.s.now c.requires;
      on = the_on;
      within = l.invariant.0;
      bytes = c.label_len-n.ensures.0;
      test = c.side.ensures ∙ ap (λ (y : List ℕ). order_of y (area l.i c.label_len-n.result x.k.now)) (label_in x.s.now (l.at - 1) c.label_len-n.result (omega (arith, the_up)) c.label_len-n.ensures.1);
    } in into_fits (the_met) c.in-Equal.is

pub loop-p-init : goal.loop-p-init
loop-p-init c = (omega arith, omega arith, last_start (pool_in c.args.s.now) c.args.k.now c.args.first)

pub overflow_sub-p : goal.overflow_sub-p
overflow_sub-p c = omega (arith, up (goal.at.overflow_sub-p c).In-loop-p)

pub label_len-n-requires : goal.label_len-n-requires
label_len-n-requires c = (c.requires, omega (arith, up (goal.at.label_len-n-requires c).In-loop-p))

pub overflow_mul-p : goal.overflow_mul-p
overflow_mul-p c = omega (arith, up (goal.at.overflow_mul-p c).In-loop-p)

pub overflow_add-p : goal.overflow_add-p
overflow_add-p c = omega (arith, up (goal.at.overflow_add-p c).In-loop-p)

pub side-requires : goal.side-requires
side-requires c = omega (arith, up (goal.at.side-requires c).In-loop-p, c.requires)

pub next_at-at-requires : goal.next_at-at-requires
next_at-at-requires c = (c.requires, omega (arith, up (goal.at.next_at-at-requires c).In-loop-p))

pub overflow_sub-left : goal.overflow_sub-left
overflow_sub-left c = omega (arith, up (goal.at.overflow_sub-left c).In-loop-p)

pub loop-p-smaller-in-Less : goal.loop-p-smaller-in-Less
loop-p-smaller-in-Less c = omega (arith, up (goal.at.loop-p-smaller-in-Less c).In-loop-p)

pub loop-p-preserved-in-Less : goal.loop-p-preserved-in-Less
loop-p-preserved-in-Less c =
    let l = c.loop-p in
    (l.invariant.0, l.invariant.0, last_next (met (goal.at.loop-p-preserved-in-Less c).After-side) l.stop c.next_at-at.result c.in-Less.is c.next_at-at.ensures.0 ∙ l.invariant.2)

pub own_stop-stop-requires : goal.own_stop-stop-requires
own_stop-stop-requires c = (c.requires, omega (arith, up (goal.at.own_stop-stop-requires c).In-loop-p))

pub overflow_add-i : goal.overflow_add-i
overflow_add-i c = omega (arith, fits (goal.at.overflow_add-i c).In-Equal)

pub child_at-at-requires : goal.child_at-at-requires
child_at-at-requires c = (c.requires, omega (arith, up (goal.at.child_at-at-requires c).In-loop-p))

pub overflow_sub-left-in-Equal : goal.overflow_sub-left-in-Equal
overflow_sub-left-in-Equal c = omega (arith, up (goal.at.overflow_sub-left-in-Equal c).In-loop-p)

pub loop-p-smaller : goal.loop-p-smaller
loop-p-smaller c = omega (arith, up (goal.at.loop-p-smaller c).In-loop-p)

pub loop-p-preserved : goal.loop-p-preserved
loop-p-preserved c =
    let l = c.loop-p in
    let x = c.args in (
      fits (goal.at.loop-p-preserved c).In-Equal,
      lead_within (eqb (get_or (pool_in x.s.now).key (l.at - 1) 0) 0) l.stop (stop_at l.at l.i 1) (length x.k.now) c.own_stop-stop.ensures l.invariant.1 l.invariant.0,
      last_into (met (goal.at.loop-p-preserved c).After-side) l.stop c.child_at-at.result c.own_stop-stop.result c.in-Equal.is c.child_at-at.ensures.0 c.own_stop-stop.ensures
          ∙ l.invariant.2,
    )

pub returns-in-Greater : goal.returns-in-Greater
returns-in-Greater c =
    let l = c.loop-p in
    record { lead = l.invariant.1; greatest = last_end (met (goal.at.returns-in-Greater c).After-side) l.stop c.in-Greater.is ∙ l.invariant.2 }

pub returns : goal.returns
returns c =
    let l = c.loop-p in
    record {
      lead = l.invariant.1;
      greatest = last_stop (pool_in c.args.s.now) (drop l.i c.args.k.now) (take l.i c.args.k.now) l.left l.at
          (sym c.leads.ensures ∙ c.loop-p-test.false) (greatest_from (pool_in c.args.s.now) c.args.k.now l.stop)
          ∙ l.invariant.2;
    }
